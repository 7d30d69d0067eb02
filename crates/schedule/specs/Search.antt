-- Looking through the numbers from 0 on.
use Rattle.std.specs.Prelude.{ℕ, zero, suc, max, Bool, cond, nat_lt}

-- the first number below n that passes, or n where none does
abbrev pub first : (ℕ → Bool) → ℕ → ℕ
first passes zero = 0
first passes (suc n) = cond (nat_lt (first passes n) n) (first passes n) (cond (passes n) n (suc n))

-- the largest of f 0 to f (n - 1), or 0 where n is 0
abbrev pub largest : (ℕ → ℕ) → ℕ → ℕ
largest f zero = 0
largest f (suc n) = max (largest f n) (f n)
