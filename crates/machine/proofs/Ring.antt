-- A ring of places: what is left of it where the first entry leaves and one joins behind the last.
use Rattle.std.proofs.Common.{◌≡◌, ℕ, zero, suc, ◌+◌, ◌-◌, ◌%◌, ◌<◌, ◌≤◌, Bool, true, false, cond, eqb, List, [], ◌∷◌, ◌++◌, length, drop, sym, refl, ap, ◌∙◌, ap₂, mod-lt, mod-eq_of_lt, arith, ◌⊎◌, inl, inr, ⊎_elim}
use native.Mathlib.Nat.{mod-eq-sub-mod, mod-add-mod}
use Rattle.std.specs.List.{range_with_len, flat_map}
use Rattle.std.proofs.lemmas.List.{append-nil, append_assoc, drop_at, length-append}
use Rattle.std.proofs.lemmas.Bool.{eq-eqb, ne_eqb, cases_lt}
use Rattle.machine.specs.Cycle.{bit}

-- n entries of a ring of b places from place f on; each place gives a list
unfoldable pub ring : {X : Type 0} → ℕ → (ℕ → List X) → ℕ → ℕ → List X
ring b g f n = flat_map (λ (j : ℕ). g ((f + j) % b)) (range_with_len 0 n)

-- what joins takes the place of what was there
unfoldable pub pick : {X : Type 0} → Bool → List X → List X → List X
pick here [] old = old
pick here (x ∷ xs) old = cond here (x ∷ []) old

pub joined_ext : {X : Type 0} (p q : ℕ → List X) (a n : ℕ) → ((j : ℕ) → a ≤ j → j < a + n → p j ≡ q j)
    → flat_map p (range_with_len a n) ≡ flat_map q (range_with_len a n)
joined_ext p q a zero h = refl
joined_ext p q a (suc n) h = ap₂ ◌++◌ (h a (omega arith) (omega arith))
    (joined_ext p q (a + 1) n (λ j l k. h j (omega arith) (omega arith)))

joined_shift : {X : Type 0} (p q : ℕ → List X) (a n : ℕ) → ((j : ℕ) → p j ≡ q (j + 1))
    → flat_map p (range_with_len a n) ≡ flat_map q (range_with_len (a + 1) n)
joined_shift p q a zero h = refl
joined_shift p q a (suc n) h = ap₂ ◌++◌ (h a) (joined_shift p q (a + 1) n h)

joined_last : {X : Type 0} (p : ℕ → List X) (a n : ℕ) → flat_map p (range_with_len a (suc n)) ≡ flat_map p (range_with_len a n) ++ p (a + n)
joined_last p a zero = grind (arith, append-nil)
joined_last p a (suc n) = grind (arith, append_assoc, joined_last p (a + 1) n)

joined_length : {X : Type 0} (p : ℕ → List X) (a n : ℕ) → ((j : ℕ) → length (p j) ≡ 1) → length (flat_map p (range_with_len a n)) ≡ n
joined_length p a zero h = refl
joined_length p a (suc n) h = omega (arith, length-append (p a) (flat_map p (range_with_len (a + 1) n)), h a, joined_length p (a + 1) n h)

-- below 2 b one b less at most
wrap : (b x : ℕ) → x < b + b → ((x < b) × (x % b ≡ x)) ⊎ ((b ≤ x) × (x % b ≡ x - b))
wrap b x h =
    ⊎_elim (λ (l : x < b). inl (l, mod-eq_of_lt l))
    (λ (l : b ≤ x). let k : x - b < b = omega arith in inr (l, mod-eq-sub-mod l ∙ mod-eq_of_lt k)) (cases_lt x b)

-- fewer than b places on is another place
apart : (b f j n : ℕ) → f < b → j < n → n < b → (f + j) % b ≡ (f + n) % b → ⊥
apart b f j n h k l e = grind (arith, mod-eq-sub-mod, mod-eq_of_lt)

-- what leaves does not move the end
ring_end : (b f n : ℕ) (leaving : Bool) → (leaving ≡ true → 0 < n)
    → (cond leaving ((f + 1) % b) f + (n - bit leaving 1)) % b ≡ (f + n) % b
unfolding bit
ring_end b f n leaving h = grind (arith, mod-add-mod (f + 1) b (n - 1))

pub ring_first : (b f : ℕ) (leaving : Bool) → f < b → cond leaving ((f + 1) % b) f < b
ring_first b f leaving h = grind (arith, mod-lt)

module _ {X : Type 0} (b : ℕ) (some : 0 < b) (g : ℕ → List X) (one : (k : ℕ) → k < b → length (g k) ≡ 1) where
  pub ring_length : (f n : ℕ) → length (ring b g f n) ≡ n
  unfolding ring
  ring_length f n = joined_length (λ (j : ℕ). g ((f + j) % b)) 0 n (λ j. one _ (mod-lt (f + j) some))

  ring_drop : (f n : ℕ) → ring b g ((f + 1) % b) n ≡ drop 1 (ring b g f (suc n))
  unfolding ring
  ring_drop f n =
      joined_shift (λ (j : ℕ). g (((f + 1) % b + j) % b)) (λ (j : ℕ). g ((f + j) % b)) 0 n
      (λ j. ap g (mod-add-mod (f + 1) b j ∙ ap (λ (x : ℕ). x % b) (omega arith)))
      ∙ sym (drop_at (g ((f + 0) % b)) _ 1 (one _ (mod-lt (f + 0) some)))

  ring_leave : (f n : ℕ) (leaving : Bool) → (leaving ≡ true → 0 < n)
      → ring b g (cond leaving ((f + 1) % b) f) (n - bit leaving 1) ≡ cond leaving (drop 1 (ring b g f n)) (ring b g f n)
  unfolding bit
  ring_leave f n false h = ap (ring b g f) (omega arith)
  ring_leave f zero true h = let k : 0 < 0 = h refl in absurd (omega arith)
  ring_leave f (suc n) true h = ap (ring b g ((f + 1) % b)) (omega arith) ∙ ring_drop f n

  ring_agree : (h : ℕ → List X) (f n : ℕ) → ((j : ℕ) → j < n → h ((f + j) % b) ≡ g ((f + j) % b)) → ring b h f n ≡ ring b g f n
  unfolding ring
  ring_agree h f n same = joined_ext (λ (j : ℕ). h ((f + j) % b)) (λ (j : ℕ). g ((f + j) % b)) 0 n (λ j l k. same j (omega arith))

  pub ring_moved : (f n : ℕ) (h : ℕ → List X) (leaving : Bool) (joining : List X) → f < b → (leaving ≡ true → 0 < n) → length joining ≤ 1
      → (0 < length joining → n < b) → ((k : ℕ) → k < b → h k ≡ pick (eqb k ((f + n) % b)) joining (g k))
      → ring b h (cond leaving ((f + 1) % b) f) (n - bit leaving 1 + length joining)
      ≡ cond leaving (drop 1 (ring b g f n)) (ring b g f n) ++ joining
  unfolding pick ring
  ring_moved f n h leaving [] hf ho hl hr same =
      let agree = ring_agree h (cond leaving ((f + 1) % b) f) (n - bit leaving 1) (λ j l. same _ (mod-lt _ some)) in
      grind (arith, append-nil, agree, ring_leave f n leaving ho)
  ring_moved f n h leaving (x ∷ []) hf ho hl hr same =
      let f' : ℕ = cond leaving ((f + 1) % b) f in
      let n' : ℕ = n - bit leaving 1 in
      let room : n < b = hr (omega arith) in
      let end : (f' + n') % b ≡ (f + n) % b = ring_end b f n leaving ho in
      let rest : ring b h f' n' ≡ ring b g f' n' =
      ring_agree h f' n' (λ j l. same _ (mod-lt _ some)
      ∙ ap (λ (t : Bool). cond t (x ∷ []) (g ((f' + j) % b))) (ne_eqb _ _
      (λ e. apart b f' j n' (ring_first b f leaving hf) l (omega arith) (e ∙ sym end)))) in
      let last : h ((f' + n') % b) ≡ x ∷ [] =
      same _ (mod-lt _ some) ∙ ap (λ (t : Bool). cond t (x ∷ []) (g ((f' + n') % b))) (eq-eqb _ _ end) in
      let more : n' + length (x ∷ []) ≡ suc n' = omega arith in
      ap (ring b h f') more ∙ (joined_last (λ (j : ℕ). h ((f' + j) % b)) 0 n'
      ∙ ap₂ ◌++◌ (rest ∙ ring_leave f n leaving ho) (ap (λ (j : ℕ). h ((f' + j) % b)) (omega arith) ∙ last))
  ring_moved f n h leaving (x ∷ (y ∷ joining)) hf ho hl hr same = absurd (omega arith)
