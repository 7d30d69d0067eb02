-- How a block's lines are found: by the place of the first line feed, one line after the other.
use Rattle.std.proofs.Common.{◌≡◌, ℕ, suc, ◌+◌, ◌<◌, ◌≤◌, Bool, true, false, cond, eqb, ltb, not, ◌⊎◌, List, [], ◌∷◌, ◌++◌, length, take, drop, Some, None, Option, sym, refl, ap, ◌∙◌, subst, inl, inr, arith, MatchOption, ◌-◌}
use Rattle.std.specs.List.{flat_map, position_or_len, AllByRecursion}
use Rattle.std.specs.Option.{SomeIff, option_map}
use Rattle.std.proofs.lemmas.List.{drop_all, take_rest}
use Rattle.std.proofs.lemmas.Bool.{cases_lt, cases_eq, cond-false, eq-eqb, ltb-false, ltb-true, ne_eqb}
use Rattle.frames.specs.declared.lines.Line.{Line}
use Rattle.frames.specs.Lines.{LineText, ended, unended, line_feed, feed_place, after_line, begun, line_value}
use Rattle.frames.specs.Lines.{all_lines, first, first_line, line_bytes, Orderly, Whole, Walked}

same_place_at : {n m : ℕ} (feed : Bool) → n ≡ m → cond (not feed) (1 + n) 0 ≡ cond feed 0 (suc m)
same_place_at true e = refl
same_place_at false e = omega (arith, e)

found_by : {P : Type 0} (r : Option ℕ) (place : ℕ) (inside : Bool) → (inside ≡ true → P) → (inside ≡ false → P → ⊥)
    → r ≡ cond inside (Some place) None → SomeIff r P place
found_by None place true held out e = absurd (let z : ◌≡◌ {A = ℕ} 0 1 = cc in omega arith)
found_by None place false held out e = out refl
found_by (Some x) place true held out e = (held refl, cc)
found_by (Some x) place false held out e = absurd (let z : ◌≡◌ {A = ℕ} 0 1 = cc in omega arith)

-- the first line feed stands where the first byte that is one does
same_place : (block : List ℕ) → position_or_len (λ b. eqb b line_feed) block ≡ feed_place block
same_place [] = refl
same_place (x ∷ xs) = same_place_at (eqb x line_feed) (same_place xs)

pub feed_found :
    (block : List ℕ) (r : Option ℕ)
    → r ≡ cond (ltb (position_or_len (λ b. eqb b line_feed) block) (length block)) (Some (position_or_len (λ b. eqb b line_feed) block)) None
    → SomeIff r (feed_place block < length block) (feed_place block)
feed_found block r e =
    found_by r (feed_place block) (ltb (feed_place block) (length block)) (ltb-true _ _) (λ no h. absurd (omega (arith, ltb-false _ _ no)))
    (rw (← same_place block) e)

ended_at :
    (x : ℕ) (xs : List ℕ) (feed : Bool)
    → (feed_place xs < length xs → all_lines xs ≡ ended (take (feed_place xs) xs) ∷ all_lines (after_line xs))
    → cond feed 0 (suc (feed_place xs)) < suc (length xs)
    → cond feed (ended [] ∷ all_lines xs) (begun x (all_lines xs))
    ≡ ended (take (cond feed 0 (suc (feed_place xs))) (x ∷ xs)) ∷ all_lines (drop (suc (cond feed 0 (suc (feed_place xs)))) (x ∷ xs))
ended_at x xs true more h = refl
ended_at x xs false more h = ap (begun x) (more (omega arith))

pub line_ended :
    (block : List ℕ) → feed_place block < length block
    → all_lines block ≡ ended (take (feed_place block) block) ∷ all_lines (after_line block)
line_ended [] h = absurd (omega arith)
line_ended (x ∷ xs) h = ended_at x xs (eqb x line_feed) (line_ended xs) h

-- the lines of a block without a line feed
abbrev only : List ℕ → List LineText
only [] = []
only (x ∷ xs) = unended (x ∷ xs) ∷ []

begun_only : (x : ℕ) (xs : List ℕ) → begun x (only xs) ≡ only (x ∷ xs)
begun_only x [] = refl
begun_only x (y ∷ ys) = refl

unended_at :
    (x : ℕ) (xs : List ℕ) (feed : Bool)
    → (length xs ≤ feed_place xs → all_lines xs ≡ only xs)
    → suc (length xs) ≤ cond feed 0 (suc (feed_place xs))
    → cond feed (ended [] ∷ all_lines xs) (begun x (all_lines xs)) ≡ only (x ∷ xs)
unended_at x xs true more h = absurd (omega arith)
unended_at x xs false more h = ap (begun x) (more (omega arith)) ∙ begun_only x xs

pub line_unended : (block : List ℕ) → length block ≤ feed_place block → all_lines block ≡ only block
line_unended [] h = refl
line_unended (x ∷ xs) h = unended_at x xs (eqb x line_feed) (line_unended xs) h

pub first_unended :
    (block : List ℕ) → length block ≤ feed_place block → first_line block ≡ cond (eqb (length block) 0) None (Some (unended block))
first_unended [] h = refl
first_unended (x ∷ xs) h =
    ap first (line_unended (x ∷ xs) h) ∙ sym (cond-false _ None _ (ne_eqb (suc (length xs)) 0 (λ e. omega arith)))

-- after a line without a line feed nothing is left
pub nothing_left :
    (block : List ℕ) (place : ℕ) → place ≡ feed_place block → length block ≤ place
    → take (length block - place) (drop place block) ≡ after_line block
nothing_left block place e h =
    let past : length block ≤ suc (feed_place block) = omega arith in
    take_rest block place ∙ (drop_all place block h ∙ sym (drop_all (suc (feed_place block)) block past))

walked_by : (block : List ℕ) (line : LineText) → all_lines block ≡ line ∷ all_lines (after_line block) → Walked block
walked_by block line e =
    subst (λ (o : Option LineText). MatchOption o (all_lines block ≡ []) (λ found. all_lines block ≡ found ∷ all_lines (after_line block)))
    (sym (ap first e)) e

pub walked : (block : List ℕ) → Walked block
walked [] = refl
walked (x ∷ xs) =
    elim (cases_lt (feed_place (x ∷ xs)) (length (x ∷ xs))) [
      | inl h ↦ walked_by (x ∷ xs) _ (line_ended (x ∷ xs) h)
      | inr h ↦
          (let past : length (x ∷ xs) ≤ suc (feed_place (x ∷ xs)) = omega arith in
          walked_by (x ∷ xs) (unended (x ∷ xs))
          (line_unended (x ∷ xs) h ∙ ap (λ (left : List ℕ). unended (x ∷ xs) ∷ all_lines left) (sym (drop_all _ (x ∷ xs) past))))
    ]

-- a byte that is no line feed belongs to the line that it stands before
step : (x : ℕ) (xs : List ℕ) → (x ≡ line_feed → ⊥) → all_lines (x ∷ xs) ≡ begun x (all_lines xs)
step x xs other = rw (ne_eqb x line_feed other)

orderly_begun : (x : ℕ) (lines : List LineText) → (x ≡ line_feed → ⊥) → Orderly lines → Orderly (begun x lines)
orderly_begun x [] other h = ((other, tt), omega arith, refl)
orderly_begun x (ended text ∷ lines) other h = ((other, h.0), h.1)
orderly_begun x (unended text ∷ lines) other h = ((other, h.0), omega arith, h.2)

orderly_at :
    (x : ℕ) (xs : List ℕ) → Orderly (all_lines xs) → (x ≡ line_feed) ⊎ (x ≡ line_feed → ⊥) → Orderly (all_lines (x ∷ xs))
orderly_at x xs more (inl e) = rw (eq-eqb x line_feed e) (tt, more)
orderly_at x xs more (inr other) = rw (step x xs other) (orderly_begun x (all_lines xs) other more)

orderly : (block : List ℕ) → Orderly (all_lines block)
orderly [] = tt
orderly (x ∷ xs) = orderly_at x xs (orderly xs) (cases_eq x line_feed)

joined_begun : (x : ℕ) (lines : List LineText) → flat_map line_bytes (begun x lines) ≡ x ∷ flat_map line_bytes lines
joined_begun x [] = refl
joined_begun x (ended text ∷ lines) = refl
joined_begun x (unended text ∷ lines) = refl

joined_at :
    (x : ℕ) (xs : List ℕ) → flat_map line_bytes (all_lines xs) ≡ xs → (x ≡ line_feed) ⊎ (x ≡ line_feed → ⊥)
    → flat_map line_bytes (all_lines (x ∷ xs)) ≡ x ∷ xs
joined_at x xs more (inl e) = rw (eq-eqb x line_feed e) (cc)
joined_at x xs more (inr other) =
    rw (step x xs other) (joined_begun x (all_lines xs) ∙ ap (λ (bytes : List ℕ). x ∷ bytes) more)

joined_whole : (block : List ℕ) → flat_map line_bytes (all_lines block) ≡ block
joined_whole [] = refl
joined_whole (x ∷ xs) = joined_at x xs (joined_whole xs) (cases_eq x line_feed)

-- a line that is handed out is the first of those that were left
handed_none :
    (block left : List ℕ) → Walked block → None ≡ first_line block → left ≡ after_line block → flat_map line_bytes (all_lines block) ≡ block
    → (all_lines block ≡ []) × (all_lines left ≡ [])
handed_none block left walks e rest whole =
    let none : all_lines block ≡ [] = subst (λ o. MatchOption o (all_lines block ≡ []) (λ line. all_lines block ≡ line ∷ all_lines (after_line block))) (sym e) walks in
    let empty : block ≡ [] = sym whole ∙ ap (λ (lines : List LineText). flat_map line_bytes lines) none in
    (none, rw (rest, empty) refl)

handed_some :
    (block left : List ℕ) (line : LineText) → Walked block → Some line ≡ first_line block → left ≡ after_line block
    → all_lines block ≡ line ∷ all_lines left
handed_some block left line walks e rest =
    rw rest (subst (λ o. MatchOption o (all_lines block ≡ []) (λ line. all_lines block ≡ line ∷ all_lines (after_line block))) (sym e) walks)

pub handed_out :
    (block left : List ℕ) (r : Option Line) → option_map line_value r ≡ first_line block → left ≡ after_line block
    → MatchOption r ((all_lines block ≡ []) × (all_lines left ≡ [])) (λ line. all_lines block ≡ line_value line ∷ all_lines left)
handed_out block left None e rest = handed_none block left (walked block) e rest (joined_whole block)
handed_out block left (Some line) e rest = handed_some block left (line_value line) (walked block) e rest

all_lines_ended :
    (text rest : List ℕ) → AllByRecursion (λ b. b ≡ line_feed → ⊥) text
    → all_lines ((text ++ line_feed ∷ []) ++ rest) ≡ ended text ∷ all_lines rest
all_lines_ended [] rest h = refl
all_lines_ended (x ∷ xs) rest h =
    step x ((xs ++ line_feed ∷ []) ++ rest) h.0 ∙ ap (begun x) (all_lines_ended xs rest h.1)

all_lines_unended : (text : List ℕ) → AllByRecursion (λ b. b ≡ line_feed → ⊥) text → all_lines (text ++ []) ≡ only text
all_lines_unended [] h = refl
all_lines_unended (x ∷ xs) h =
    step x (xs ++ []) h.0 ∙ (ap (begun x) (all_lines_unended xs h.1) ∙ begun_only x xs)

alone : (lines : List LineText) → Orderly lines → lines ≡ all_lines (flat_map line_bytes lines)
alone [] h = refl
alone (ended text ∷ lines) h =
    ap (λ (more : List LineText). ended text ∷ more) (alone lines h.1) ∙ sym (all_lines_ended text (flat_map line_bytes lines) h.0)
alone (unended [] ∷ lines) h = absurd (omega arith)
alone (unended (x ∷ xs) ∷ []) h = sym (all_lines_unended (x ∷ xs) h.0)
alone (unended (x ∷ xs) ∷ line ∷ lines) h =
    let last : (◌≡◌ {A = List LineText} (line ∷ lines) []) = h.2 in
    absurd (let z : ◌≡◌ {A = ℕ} 0 1 = cc in omega arith)

pub whole : (block : List ℕ) → Whole block
whole block = (orderly block, joined_whole block, λ lines h e. alone lines h ∙ ap all_lines e)
