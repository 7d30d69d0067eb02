-- What the first number that passes tells.
use Rattle.std.proofs.Common.{◌≡◌, ℕ, zero, suc, ◌<◌, ◌≤◌, Bool, true, false, ltb, List, length, get_or, sym, refl, subst, ⊎_elim, arith}
use Rattle.std.proofs.lemmas.Bool.{lt-ltb, le-ltb, ltb-true, ltb-false, cases_lt}
use Rattle.std.specs.List.{position_or_len}
use Rattle.std.proofs.lemmas.List.Sums.{fails_before_first, passes_at_first, prefix_len-le-length}
use Rattle.schedule.specs.Search.{first}

pub first_none : (p : ℕ → Bool) (n : ℕ) → ((k : ℕ) → k < n → p k ≡ false) → first p n ≡ n
first_none p zero h = refl
first_none p (suc n) h =
    let e : first p n ≡ n = first_none p n (λ k l. h k (omega arith)) in
    let f : ltb (first p n) n ≡ false = le-ltb (first p n) n (omega arith) in
    rw (f, h n (omega arith))

pub first_at : (p : ℕ → Bool) (n i : ℕ) → i < n → ((k : ℕ) → k < i → p k ≡ false) → p i ≡ true → first p n ≡ i
first_at p zero i l h e = absurd (omega arith)
first_at p (suc n) i l h e = ⊎_elim (λ m. below (first_at p n i m h e) m) here (cases_lt i n)
  where
    below : first p n ≡ i → i < n → first p (suc n) ≡ i
    below f m = let g : ltb (first p n) n ≡ true = lt-ltb (first p n) n (omega arith) in rw (g, f)

    here : n ≤ i → first p (suc n) ≡ i
    here m =
        let q : n ≡ i = omega arith in
        let f : first p n ≡ n = first_none p n (λ k j. h k (omega arith)) in
        let g : ltb (first p n) n ≡ false = le-ltb (first p n) n (omega arith) in
        let b : p n ≡ true = subst (λ x. p x ≡ true) (sym q) e in
        rw (g, b) q

-- the first number that passes passes, and none before it does
pub first_tells : (p : ℕ → Bool) (n : ℕ)
    → (first p n ≤ n) × ((k : ℕ) → k < first p n → p k ≡ false) × (first p n < n → p (first p n) ≡ true)
first_tells p zero = (omega arith, (λ k l. absurd (omega arith)), λ l. absurd (omega arith))
first_tells p (suc n) = go (first_tells p n) (ltb (first p n) n) refl (p n) refl
  where
    go : (first p n ≤ n) × ((k : ℕ) → k < first p n → p k ≡ false) × (first p n < n → p (first p n) ≡ true)
        → (b : Bool) → ltb (first p n) n ≡ b → (c : Bool) → p n ≡ c
        → (first p (suc n) ≤ suc n) × ((k : ℕ) → k < first p (suc n) → p k ≡ false)
        × (first p (suc n) < suc n → p (first p (suc n)) ≡ true)
    go h true e c f = let l = ltb-true (first p n) n e in rw e (omega arith, h.1, λ _. h.2 l)
    go h false e true f =
        let q : first p n ≡ n = omega (arith, ltb-false (first p n) n e) in
        rw (e, f) (omega arith, (λ k l. h.1 k (omega arith)), λ _. f)
    go h false e false f =
        let q : first p n ≡ n = omega (arith, ltb-false (first p n) n e) in
        rw (e, f) (
          omega arith,
          (λ k l. ⊎_elim (λ m. h.1 k (omega arith)) (λ m. let s : n ≡ k = omega arith in subst (λ x. p x ≡ false) s f) (cases_lt k n)),
          λ l. absurd (omega arith),
        )

-- the first place of a list whose entry passes, by what its entries are
pub first_place : (p : ℕ → Bool) (entry : ℕ → ℕ) (xs : List ℕ) → ((k : ℕ) → k < length xs → get_or xs k 0 ≡ entry k)
    → first (λ k. p (entry k)) (length xs) ≡ position_or_len p xs
first_place p entry xs e = ⊎_elim here none (cases_lt (position_or_len p xs) (length xs))
  where
    fails : (k : ℕ) → k < position_or_len p xs → p (entry k) ≡ false
    fails k l = subst (λ x. p x ≡ false) (e k (omega (arith, prefix_len-le-length {X = ℕ}))) (fails_before_first p xs k 0 l)

    here : position_or_len p xs < length xs → first (λ k. p (entry k)) (length xs) ≡ position_or_len p xs
    here l =
        first_at (λ k. p (entry k)) (length xs) (position_or_len p xs) l fails
        (subst (λ x. p x ≡ true) (e (position_or_len p xs) l) (passes_at_first p xs 0 l))

    none : length xs ≤ position_or_len p xs → first (λ k. p (entry k)) (length xs) ≡ position_or_len p xs
    none l =
        let all : first (λ k. p (entry k)) (length xs) ≡ length xs =
        first_none (λ k. p (entry k)) (length xs) (λ k m. fails k (omega arith)) in
        omega (arith, prefix_len-le-length {X = ℕ})
