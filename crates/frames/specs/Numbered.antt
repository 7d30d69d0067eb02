-- Values that are told apart by numbers, and the way back from a number to its value.
use Rattle.std.specs.Prelude.{◌≡◌, ℕ, cond, List, [], ◌∷◌, Some, None, Option, ◌==◌}

-- the first of these values that has the number
abbrev pub named : {K : Type 0} → (K → ℕ) → List K → ℕ → Option K
named number [] n = None
named number (k ∷ ks) n = cond (number k == n) (Some k) (named number ks n)

-- a value is found by its own number, and by no other
abbrev pub ToldApart : {K : Type 0} → (K → ℕ) → (ℕ → Option K) → Type 0
ToldApart {K} number found = (k : K) (n : ℕ) → (number k ≡ n → found n ≡ Some k) × (found n ≡ Some k → number k ≡ n)
