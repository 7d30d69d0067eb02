-- Lists changed in place.
use Rattle.std.proofs.Common.{◌≡◌, ℕ, zero, suc, ◌+◌, ◌<◌, ◌≤◌, List, [], ◌∷◌, ◌++◌, length, take, drop, replicate, get_or, set, sym, refl, ap, ◌∙◌, ⊎_elim, le_of_suc-le-suc, not-suc-le-zero, add-zero, zero-add, arith}
use Rattle.std.proofs.lemmas.List.{same_lists, length-set, get_or-set_same, get_or-set_other, get_or_default, length-take-le}
use Rattle.std.proofs.lemmas.Bool.{cases_eq, cases_lt}
use Rattle.machine.specs.Moves.{edit}

-- what an edit that starts at a makes of entry k
module _ {X : Type 0} (f : ℕ → X → X) where
  length_from : (a n : ℕ) (xs : List X) → length (edit a n f xs) ≡ length xs
  unfolding edit
  length_from a n [] = refl
  length_from a zero (x ∷ xs) = refl
  length_from a (suc n) (x ∷ xs) = ap suc (length_from (a + 1) n xs)

  getD_from : (a n : ℕ) (xs : List X) (k : ℕ) (d : X) → k < n → k < length xs → get_or (edit a n f xs) k d ≡ f (a + k) (get_or xs k d)
  unfolding edit
  getD_from a n [] k d h j = absurd (not-suc-le-zero j)
  getD_from a zero (x ∷ xs) k d h j = absurd (not-suc-le-zero h)
  getD_from a (suc n) (x ∷ xs) zero d h j = ap (λ i. f i x) (sym (add-zero a))
  getD_from a (suc n) (x ∷ xs) (suc k) d h j =
      let on : a + 1 + k ≡ a + suc k = omega arith in
      getD_from (a + 1) n xs k d (le_of_suc-le-suc h) (le_of_suc-le-suc j) ∙ ap (λ i. f i (get_or xs k d)) on

  getD_past_from : (a n : ℕ) (xs : List X) (k : ℕ) (d : X) → n ≤ k → get_or (edit a n f xs) k d ≡ get_or xs k d
  unfolding edit
  getD_past_from a n [] k d h = refl
  getD_past_from a zero (x ∷ xs) k d h = refl
  getD_past_from a (suc n) (x ∷ xs) zero d h = absurd (not-suc-le-zero h)
  getD_past_from a (suc n) (x ∷ xs) (suc k) d h = getD_past_from (a + 1) n xs k d (le_of_suc-le-suc h)

-- the front of a list written with one value
front_from : {X : Type 0} (a n : ℕ) (v : X) (xs : List X) → n ≤ length xs → replicate n v ++ drop n xs ≡ edit a n (λ _ _. v) xs
unfolding edit
front_from a zero v [] h = refl
front_from a zero v (x ∷ xs) h = refl
front_from a (suc n) v [] h = absurd (not-suc-le-zero h)
front_from a (suc n) v (x ∷ xs) h = ap (λ ys. v ∷ ys) (front_from (a + 1) n v xs (le_of_suc-le-suc h))

module _ {X : Type 0} where
  -- what a fill of the front leaves
  pub edit_filled : (n : ℕ) (v : X) (xs ys : List X) → n ≤ length xs → ys ≡ replicate (length (take n xs)) v
      → ys ++ drop n xs ≡ edit 0 n (λ _ _. v) xs
  edit_filled n v xs ys h e =
      ap (λ zs. zs ++ drop n xs) (e ∙ ap (λ k. replicate k v) (length-take-le n xs h)) ∙ front_from 0 n v xs h

  pub length_edit : (n : ℕ) (f : ℕ → X → X) (xs : List X) → length (edit 0 n f xs) ≡ length xs
  length_edit n f xs = length_from f 0 n xs

  pub getD_edit : (n : ℕ) (f : ℕ → X → X) (xs : List X) (k : ℕ) (d : X) → k < n → k < length xs
      → get_or (edit 0 n f xs) k d ≡ f k (get_or xs k d)
  getD_edit n f xs k d h j = getD_from f 0 n xs k d h j ∙ ap (λ i. f i (get_or xs k d)) (zero-add k)

  pub getD_edit_past : (n : ℕ) (f : ℕ → X → X) (xs : List X) (k : ℕ) (d : X) → n ≤ k → get_or (edit 0 n f xs) k d ≡ get_or xs k d
  getD_edit_past n f xs k d h = getD_past_from f 0 n xs k d h

  pub edit_none : (f : ℕ → X → X) (xs : List X) → edit 0 0 f xs ≡ xs
  unfolding edit
  edit_none f [] = refl
  edit_none f (x ∷ xs) = refl

  -- two lists that agree with an edit at each place
  pub edit_is : (n : ℕ) (f : ℕ → X → X) (xs ys : List X) → length ys ≡ length xs →
      ((k : ℕ) (d : X) → k < n → k < length xs → get_or ys k d ≡ f k (get_or xs k d)) →
      ((k : ℕ) (d : X) → n ≤ k → k < length xs → get_or ys k d ≡ get_or xs k d) → ys ≡ edit 0 n f xs
  edit_is n f xs ys len low high =
      same_lists ys (edit 0 n f xs) (len ∙ sym (length_edit n f xs))
      (λ k d h. let j : k < length xs = omega arith in ⊎_elim
      (λ (l : k < n). low k d l j ∙ sym (getD_edit n f xs k d l j))
      (λ (l : n ≤ k). high k d l j ∙ sym (getD_edit_past n f xs k d l))
      (cases_lt k n))

  -- one element more, written at i: a loop's step
  pub edit_put : (f : ℕ → X → X) (xs : List X) (i : ℕ) (v d : X) → i < length xs → v ≡ f i (get_or xs i d)
      → set (edit 0 i f xs) i v ≡ edit 0 (i + 1) f xs
  edit_put f xs i v d h e =
      let ys : List X = edit 0 i f xs in
      let l : i < length ys = rw (length_edit i f xs) h in
      edit_is (i + 1) f xs (set ys i v) (length-set ys i v ∙ length_edit i f xs)
      (λ k d' low j. ⊎_elim
      (λ (s : k ≡ i). rw s (get_or-set_same ys i v d' l ∙ e ∙ ap (f i) (get_or_default xs i d d' h)))
      (λ (ne : k ≡ i → ⊥). get_or-set_other ys i k v d' ne ∙ getD_edit i f xs k d' (omega arith) j)
      (cases_eq k i))
      (λ k d' high j. let ne : k ≡ i → ⊥ = λ s. omega arith in get_or-set_other ys i k v d' ne ∙ getD_edit_past i f xs k d' (omega arith))

  -- one element more, left as it is
  pub edit_keep : (f : ℕ → X → X) (xs : List X) (i : ℕ) → ((d : X) → get_or xs i d ≡ f i (get_or xs i d)) → edit 0 i f xs ≡ edit 0 (i + 1) f xs
  edit_keep f xs i e =
      edit_is (i + 1) f xs (edit 0 i f xs) (length_edit i f xs)
      (λ k d low j. ⊎_elim
      (λ (s : k ≡ i). rw s (getD_edit_past i f xs i d (omega arith) ∙ e d))
      (λ (ne : k ≡ i → ⊥). getD_edit i f xs k d (omega arith) j)
      (cases_eq k i))
      (λ k d high j. getD_edit_past i f xs k d (omega arith))

  -- functions that agree where they are used
  pub edit_like : (n : ℕ) (f g : ℕ → X → X) (xs : List X) → ((k : ℕ) (x : X) → k < n → f k x ≡ g k x) → edit 0 n f xs ≡ edit 0 n g xs
  edit_like n f g xs e =
      edit_is n g xs (edit 0 n f xs) (length_edit n f xs)
      (λ k d l j. getD_edit n f xs k d l j ∙ e k (get_or xs k d) l)
      (λ k d l j. getD_edit_past n f xs k d l)

  -- functions that agree at what stands there
  pub edit_same : (n : ℕ) (f g : ℕ → X → X) (xs : List X) (d : X)
      → ((k : ℕ) → k < n → k < length xs → f k (get_or xs k d) ≡ g k (get_or xs k d)) → edit 0 n f xs ≡ edit 0 n g xs
  edit_same n f g xs d e =
      edit_is n g xs (edit 0 n f xs) (length_edit n f xs)
      (λ k d' l j. getD_edit n f xs k d' l j ∙ ap (f k) (get_or_default xs k d' d j) ∙ e k l j ∙ ap (g k) (get_or_default xs k d d' j))
      (λ k d' l j. getD_edit_past n f xs k d' l)

  -- a loop's turn that writes f i of what stands at i
  pub edit_step : (f : ℕ → X → X) (xs ys : List X) (i : ℕ) (v d : X) → i < length xs → ys ≡ edit 0 i f xs → v ≡ f i (get_or ys i d)
      → set ys i v ≡ edit 0 (i + 1) f xs
  edit_step f xs ys i v d h e is =
      ap (λ zs. set zs i v) e
      ∙ edit_put f xs i v d h (is ∙ ap (λ zs. f i (get_or zs i d)) e ∙ ap (f i) (getD_edit_past i f xs i d (omega arith)))

  -- a loop's turn that writes one element, wherever it stands, and leaves the others as they are
  pub edit_at : (n : ℕ) (f g : ℕ → X → X) (xs ys : List X) (i : ℕ) (v d : X) → i < n → i < length xs → ys ≡ edit 0 n f xs →
      ((k : ℕ) (x : X) → k < n → (k ≡ i → ⊥) → g k x ≡ f k x) → v ≡ g i (get_or xs i d) → set ys i v ≡ edit 0 n g xs
  edit_at n f g xs ys i v d low inside e same is =
      let len : length ys ≡ length xs = ap length e ∙ length_edit n f xs in
      let l : i < length ys = omega arith in
      edit_is n g xs (set ys i v) (length-set ys i v ∙ len)
      (λ k d' h j. ⊎_elim
      (λ (s : k ≡ i). rw s (get_or-set_same ys i v d' l ∙ is ∙ ap (g i) (get_or_default xs i d d' inside)))
      (λ (ne : k ≡ i → ⊥). get_or-set_other ys i k v d' ne ∙ ap (λ zs. get_or zs k d') e ∙ getD_edit n f xs k d' h j
      ∙ sym (same k (get_or xs k d') h ne))
      (cases_eq k i))
      (λ k d' h j. let ne : k ≡ i → ⊥ = λ s. omega arith in get_or-set_other ys i k v d' ne ∙ ap (λ zs. get_or zs k d') e
      ∙ getD_edit_past n f xs k d' h)

  -- a function that changes nothing
  pub edit_nothing : (n : ℕ) (f : ℕ → X → X) (xs : List X) → ((k : ℕ) (x : X) → k < n → f k x ≡ x) → xs ≡ edit 0 n f xs
  edit_nothing n f xs e = edit_is n f xs xs refl (λ k d l j. sym (e k (get_or xs k d) l)) (λ k d l j. refl)
