-- Edited tables: their lengths, their entries, and what lies behind them; and tables lent and taken back.
use Rattle.std.proofs.Common.{◌≡◌, ℕ, zero, suc, ◌+◌, ◌<◌, ◌≤◌, List, [], ◌∷◌, ◌++◌, length, get_or, refl, ap, ◌∙◌, ap₂, arith}
use Rattle.std.proofs.lemmas.List.{take-append-drop, length-take, length-append}
use Rattle.std.proofs.lemmas.Grind.{common_steps}
use Rattle.machine.specs.Moves.{edit}
use Rattle.machine.specs.Runs.{Loan, whole, front, lent, back, lent_length}
use Rattle.machine.specs.Tables.{at}

module _ {X : Type 0} where
  pub length_edit : (xs : List X) (a n : ℕ) (f : ℕ → X → X) → length (edit a n f xs) ≡ length xs
  unfolding edit
  length_edit [] a n f = refl
  length_edit (x ∷ xs) a zero f = refl
  length_edit (x ∷ xs) a (suc n) f = ap suc (length_edit xs (a + 1) n f)

  edit_from : (xs : List X) (a n k j : ℕ) (f : ℕ → X → X) (z : X) → k < n → k < length xs → j ≡ a + k
      → get_or (edit a n f xs) k z ≡ f j (get_or xs k z)
  unfolding edit
  edit_from [] a n k j f z l h e = absurd (omega arith)
  edit_from (x ∷ xs) a zero k j f z l h e = absurd (omega arith)
  edit_from (x ∷ xs) a (suc n) zero j f z l h e = ap (λ (j : ℕ). f j x) (omega arith)
  edit_from (x ∷ xs) a (suc n) (suc k) j f z l h e = edit_from xs (a + 1) n k j f z (omega arith) (omega arith) (omega arith)

  pub getD_edit : (xs : List X) (n k : ℕ) (f : ℕ → X → X) (z : X) → k < n → k < length xs → get_or (edit 0 n f xs) k z ≡ f k (get_or xs k z)
  getD_edit xs n k f z l h = edit_from xs 0 n k k f z l h (omega arith)

  pub at_getD : (xs : List X) (k : ℕ) (z : X) → k < length xs → at xs k ≡ get_or xs k z ∷ []
  unfolding at
  at_getD xs k z h = grind (arith, common_steps)

  -- an entry within the table
  pub entry : (xs : List X) (k : ℕ) → k < length xs → X
  entry [] k h = absurd (omega arith)
  entry (x ∷ xs) zero h = x
  entry (x ∷ xs) (suc k) h = entry xs k (omega arith)

  pub at_edit : (xs : List X) (n k : ℕ) (f : ℕ → X → X) → k < n → (h : k < length xs)
      → (x : X) × (at xs k ≡ x ∷ []) × (at (edit 0 n f xs) k ≡ f k x ∷ [])
  at_edit xs n k f l h =
      let x : X = entry xs k h in
      let h' : k < length (edit 0 n f xs) = omega (arith, length_edit xs 0 n f) in
      (get_or xs k x, at_getD xs k x h, at_getD (edit 0 n f xs) k x h' ∙ ap (λ (y : X). y ∷ []) (getD_edit xs n k f x l h))

  pub at_left : (xs ys : List X) (k : ℕ) → k < length xs → at (xs ++ ys) k ≡ at xs k
  unfolding at
  at_left xs ys k h = grind (arith, common_steps)

  -- an edit of the needed part leaves what lies behind
  edit_over : (xs ys : List X) (a n : ℕ) (f g : ℕ → X → X) → length xs ≡ n
      → ((k : ℕ) → a ≤ k → k < a + n → (x : X) → f k x ≡ g k x) → edit a n f (xs ++ ys) ≡ edit a n g xs ++ ys
  unfolding edit
  edit_over [] [] a zero f g e h = refl
  edit_over [] (y ∷ ys) a zero f g e h = refl
  edit_over [] ys a (suc n) f g e h = absurd (omega arith)
  edit_over (x ∷ xs) ys a zero f g e h = absurd (omega arith)
  edit_over (x ∷ xs) ys a (suc n) f g e h = ap₂ ◌∷◌ (h a (omega arith) (omega arith) x)
      (edit_over xs ys (a + 1) n f g (omega arith) (λ k l m. h k (omega arith) (omega arith)))

  pub edit_onto : (xs ys : List X) (n : ℕ) (f g : ℕ → X → X) → length xs ≡ n → ((k : ℕ) → k < n → (x : X) → f k x ≡ g k x)
      → edit 0 n f (xs ++ ys) ≡ edit 0 n g xs ++ ys
  edit_onto xs ys n f g e h = edit_over xs ys 0 n f g e (λ k l m. h k (omega arith))

  -- long enough, it is the whole table with something behind
  pub covers : (l : Loan X) (xs : List X) (n : ℕ) → length xs ≡ n → n ≤ lent_length n l → (ys : List X) × (lent l xs ≡ xs ++ ys)
  unfolding lent lent_length
  covers (whole ys) xs n e h = (ys, refl)
  covers (front k) xs n e h = ([], grind (arith, common_steps))

  pub lent_is : (l : Loan X) (xs : List X) (n : ℕ) → length xs ≡ n → length (lent l xs) ≡ lent_length n l
  unfolding lent lent_length
  lent_is (whole ys) xs n e = omega (arith, length-append xs ys)
  lent_is (front k) xs n e = omega (arith, length-take k xs)

  -- a table that came back as it was lent
  pub back_lent : (l : Loan X) (xs : List X) → back xs (lent l xs) ≡ xs
  unfolding lent back
  back_lent (whole ys) xs = grind (arith, common_steps)
  back_lent (front n) xs = grind (arith, common_steps, take-append-drop n xs)

  -- a table that came back with its needed part changed
  pub back_over : (xs new ys : List X) → length new ≡ length xs → back xs (new ++ ys) ≡ new
  unfolding back
  back_over xs new ys e = grind (arith, common_steps)
