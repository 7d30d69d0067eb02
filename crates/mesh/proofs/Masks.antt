-- Sets of bits.
use Rattle.std.proofs.Common.{◌≡◌, ℕ, zero, suc, ◌+◌, ◌-◌, ◌*◌, ◌/◌, ◌%◌, ◌^◌, ◌<◌, ◌≤◌, Bool, true, false, cond, refl, ap, ◌∙◌, ⊎_elim, not-suc-le-zero, add-zero, add-one, arith, sym}
use native.Mathlib.Nat.{add-mul-div_right, add-div_right, div-eq_of_lt}
use Rattle.std.proofs.lemmas.Nat.{pow-add, pow_pos}
use Rattle.std.proofs.lemmas.Bool.{cond_both, cases_lt}
use Rattle.mesh.specs.Heads.{mask}

pub mask_none : (f : ℕ → Bool) → mask f 0 ≡ 0
unfolding mask
mask_none f = refl

pub mask_more : (f : ℕ → Bool) (i : ℕ) → mask f (i + 1) ≡ mask f i + cond (f i) (2 ^ i) 0
unfolding mask
mask_more f i = ap (mask f) (add-one i)

module _ (f : ℕ → Bool) (i set bit : ℕ) (so : set ≡ mask f i) (below : set < bit) (is : bit ≡ 2 ^ i) where
  twice : bit * 2 ≡ 2 ^ (i + 1)
  twice = let p : 2 ^ (i + 1) ≡ 2 ^ i * 2 = pow-add 2 i 1 in omega arith

  pub mask_in : f i ≡ true → (set + bit ≡ mask f (i + 1)) × (set + bit < bit * 2) × (bit * 2 ≡ 2 ^ (i + 1))
  mask_in e = (sym (mask_more f i ∙ rw e (ap (λ n. n + 2 ^ i) (sym so) ∙ ap (λ n. set + n) (sym is))), omega arith, twice)

  pub mask_out : f i ≡ false → (set ≡ mask f (i + 1)) × (set < bit * 2) × (bit * 2 ≡ 2 ^ (i + 1))
  mask_out e = (sym (mask_more f i ∙ rw e (ap (λ n. n + 0) (sym so) ∙ add-zero set)), omega arith, twice)

pub mask_lt : (f : ℕ → Bool) (n : ℕ) → mask f n < 2 ^ n
unfolding mask
mask_lt f zero = omega arith
mask_lt f (suc n) =
    let h : mask f n < 2 ^ n = mask_lt f n in
    let p : 2 ^ suc n ≡ 2 ^ n * 2 = rw (← add-one n) (pow-add 2 n 1) in
    let P : ℕ → Type 0 = λ x. mask f n + x < 2 ^ suc n in
    cond_both (f n) (2 ^ n) 0 P (λ _. omega arith) (λ _. omega arith)

-- bit i of a set of bits
pub mask_bit : (f : ℕ → Bool) (n i : ℕ) → i < n → mask f n / 2 ^ i % 2 ≡ cond (f i) 1 0
unfolding mask
mask_bit f zero i h = absurd (not-suc-le-zero h)
mask_bit f (suc n) i h = ⊎_elim (λ (l : i < n). below l (mask_bit f n i l)) at (cases_lt i n) where
  below : i < n → mask f n / 2 ^ i % 2 ≡ cond (f i) 1 0 → (mask f n + cond (f n) (2 ^ n) 0) / 2 ^ i % 2 ≡ cond (f i) 1 0
  below l rest =
      let P : ℕ → Type 0 = λ c. (mask f n + c) / 2 ^ i % 2 ≡ cond (f i) 1 0 in
      let e = n - (i + 1) in
      let split : 2 ^ n ≡ 2 ^ (e + 1) * 2 ^ i = ap (λ m. 2 ^ m) (omega arith) ∙ pow-add 2 (e + 1) i in
      let two : 2 ^ (e + 1) ≡ 2 ^ e * 2 = pow-add 2 e 1 in
      let over : (mask f n + 2 ^ (e + 1) * 2 ^ i) / 2 ^ i ≡ mask f n / 2 ^ i + 2 ^ (e + 1) =
      add-mul-div_right (mask f n) (2 ^ (e + 1)) (pow_pos i) in
      cond_both (f n) (2 ^ n) 0 P
      (λ _. rw (split, over) ((omega arith) ∙ rest))
      (λ _. rw (add-zero (mask f n)) rest)

  at : n ≤ i → (mask f n + cond (f n) (2 ^ n) 0) / 2 ^ i % 2 ≡ cond (f i) 1 0
  at l =
      let e : i ≡ n = omega arith in
      let none : mask f n / 2 ^ n ≡ 0 = div-eq_of_lt (mask_lt f n) in
      let here : (b : Bool)
      → (mask f n + cond b (2 ^ n) 0) / 2 ^ n % 2
      ≡ cond b 1 0 = λ b. elim b as (λ x. (mask f n + cond x (2 ^ n) 0) / 2 ^ n % 2 ≡ cond x 1 0) [
        | true ↦ rw (add-div_right (mask f n) (pow_pos n), none) refl
        | false ↦ rw (add-zero (mask f n), none) refl
      ] in
      rw e (here (f n))
