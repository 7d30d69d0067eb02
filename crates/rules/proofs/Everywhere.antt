-- A test that antt computes at every number below a limit, turned into the fact at each of them.
use Rattle.std.specs.Prelude.{◌≡◌, ℕ, zero, suc, ◌<◌, ◌≤◌, Bool, true, false, ◌&&◌, refl}
use Rattle.std.proofs.Common.{sym, subst, ⊎_elim, arith}
use Rattle.std.proofs.lemmas.Bool.{and_parts, cases_lt}

abbrev pub everywhere : ℕ → (ℕ → Bool) → Bool
everywhere zero test = true
everywhere (suc n) test = test n && everywhere n test

pub each : (n : ℕ) (test : ℕ → Bool) → everywhere n test ≡ true → (k : ℕ) → k < n → test k ≡ true
each zero test all k below = absurd (omega arith)
each (suc n) test all k below =
    let parts = and_parts (test n) (everywhere n test) all in
    ⊎_elim (λ (l : k < n). each n test parts.1 k l)
    (λ (l : n ≤ k). let e : n ≡ k = omega arith in subst (λ m. test m ≡ true) e parts.0)
    (cases_lt k n)

-- two tests that agree wherever both numbers are below their limits
abbrev same : Bool → Bool → Bool
same true b = b
same false true = false
same false false = true

from_same : (a b : Bool) → same a b ≡ true → a ≡ b
from_same true b e = sym e
from_same false true e = e
from_same false false e = refl

pub agree_everywhere : (f g : ℕ → ℕ → Bool) (m n : ℕ) → everywhere m (λ i. everywhere n (λ j. same (f i j) (g i j))) ≡ true
    → (i j : ℕ) → i < m → j < n → f i j ≡ g i j
agree_everywhere f g m n all i j below_m below_n =
    let row = each m (λ k. everywhere n (λ l. same (f k l) (g k l))) all i below_m in
    from_same (f i j) (g i j) (each n (λ l. same (f i l) (g i l)) row j below_n)
