-- Values found by their numbers.
use Rattle.std.proofs.Common.{◌≡◌, ℕ, zero, suc, ◌+◌, ◌<◌, ◌≤◌, Bool, true, false, cond, eqb, List, [], ◌∷◌, map, Some, Option, refl, subst, inl, inr, arith}
use Rattle.std.specs.List.{range_with_len, AllByRecursion}
use Rattle.std.proofs.lemmas.Bool.{cases_eq, eqb-true}
use Rattle.frames.specs.Numbered.{named}

module _ {K : Type 0} (number : K → ℕ) (P : K → Type 0) where
  found_at :
      (k x : K) (rest : Option K) (n : ℕ) (same : Bool) → eqb (number x) n ≡ same → P x
      → (rest ≡ Some k → (number k ≡ n) × P k) → cond same (Some x) rest ≡ Some k → (number k ≡ n) × P k
  found_at k x rest n true e p more h =
      let this : x ≡ k = cc in
      subst (λ (y : K). (number y ≡ n) × P y) this (eqb-true (number x) n e, p)
  found_at k x rest n false e p more h = more h

  -- what is found has the number, and whatever all of the values have
  pub found_right : (ks : List K) → AllByRecursion P ks → (k : K) (n : ℕ) → named number ks n ≡ Some k → (number k ≡ n) × P k
  found_right [] all k n h = absurd (let z : ◌≡◌ {A = ℕ} 0 1 = cc in omega arith)
  found_right (x ∷ ks) all k n h =
      found_at k x (named number ks n) n (eqb (number x) n) refl all.0 (found_right ks all.1 k n) h

pub named_has : {K : Type 0} (number : K → ℕ) (ks : List K) (k : K) (n : ℕ) → named number ks n ≡ Some k → number k ≡ n
named_has number [] k n h = absurd (let z : ◌≡◌ {A = ℕ} 0 1 = cc in omega arith)
named_has number (x ∷ ks) k n h =
    (found_at number (λ _. Unit {0}) k x (named number ks n) n (eqb (number x) n) refl tt (λ e. (named_has number ks k n e, tt)) h).0

-- two functions that agree on a list of numbers, which is computed, agree at each of them
pub same_counting :
    {A : Type 0} (f g : ℕ → A) (a n : ℕ) → map f (range_with_len a n) ≡ map g (range_with_len a n) → (k : ℕ) → a ≤ k → k < a + n → f k ≡ g k
same_counting f g a zero e k low high = absurd (omega arith)
same_counting f g a (suc n) e k low high =
    let first : f a ≡ g a = cc in
    let rest : map f (range_with_len (a + 1) n) ≡ map g (range_with_len (a + 1) n) = cc in
    elim (cases_eq k a) [
      | inl here ↦ rw here first
      | inr there ↦ same_counting f g (a + 1) n rest k (omega arith) (omega arith)
    ]

pub counting_below : (a n m : ℕ) → a + n ≤ m → AllByRecursion (λ v. v < m) (range_with_len a n)
counting_below a zero m h = tt
counting_below a (suc n) m h = (omega arith, counting_below (a + 1) n m (omega arith))
