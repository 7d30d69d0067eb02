-- Sums over the numbers below n.
use Rattle.std.proofs.Common.{◌≡◌, ℕ, zero, suc, ◌+◌, ◌<◌, ◌≤◌, sym, refl, ◌∙◌, arith}
use Rattle.machine.specs.Promise.{total}

pub total_ext : (n : ℕ) (f g : ℕ → ℕ) → ((k : ℕ) → k < n → f k ≡ g k) → total n f ≡ total n g
unfolding total
total_ext zero f g h = refl
total_ext (suc n) f g h = omega (arith, total_ext n f g (λ k l. h k (omega arith)), h n (omega arith))

pub total_add : (n : ℕ) (f g : ℕ → ℕ) → total n (λ k. f k + g k) ≡ total n f + total n g
unfolding total
total_add zero f g = refl
total_add (suc n) f g = omega (arith, total_add n f g)

pub total_none : (n : ℕ) (f : ℕ → ℕ) → ((k : ℕ) → k < n → f k ≡ 0) → total n f ≡ 0
unfolding total
total_none zero f h = refl
total_none (suc n) f h = omega (arith, total_none n f (λ k l. h k (omega arith)), h n (omega arith))

pub total_one : (n a : ℕ) (f : ℕ → ℕ) → a < n → ((k : ℕ) → k < n → (k ≡ a → ⊥) → f k ≡ 0) → total n f ≡ f a
unfolding total
total_one zero a f l h = absurd (omega arith)
total_one (suc n) a f l h = grind (arith, total_none n f, total_one n a f, h)

pub total_swap : (n m : ℕ) (f : ℕ → ℕ → ℕ) → total n (λ j. total m (λ k. f j k)) ≡ total m (λ k. total n (λ j. f j k))
unfolding total
total_swap zero m f = sym (total_none m (λ k. 0) (λ k l. refl))
total_swap (suc n) m f = omega (arith, total_swap n m f, total_add m (λ k. total n (λ j. f j k)) (λ k. f n k))

-- counted by rows and by columns
pub total_both : (n m : ℕ) (R : ℕ → ℕ → ℕ) (f g : ℕ → ℕ) → ((j : ℕ) → j < n → total m (λ k. R j k) ≡ f j)
    → ((k : ℕ) → k < m → total n (λ j. R j k) ≡ g k) → total n f ≡ total m g
total_both n m R f g hf hg = sym (total_ext n (λ j. total m (λ k. R j k)) f hf) ∙ total_swap n m R
    ∙ total_ext m (λ k. total n (λ j. R j k)) g hg

pub total_front : (n : ℕ) (f : ℕ → ℕ) → total (suc n) f ≡ f 0 + total n (λ k. f (suc k))
unfolding total
total_front zero f = omega arith
total_front (suc n) f = omega (arith, total_front n f)

pub total_le : (n a : ℕ) (f : ℕ → ℕ) → a < n → f a ≤ total n f
unfolding total
total_le zero a f h = absurd (omega arith)
total_le (suc n) a f h = grind (arith, total_le n a f)

pub total_two : (n a b : ℕ) (f : ℕ → ℕ) → a < n → b < n → (a ≡ b → ⊥) → f a + f b ≤ total n f
unfolding total
total_two zero a b f h k d = absurd (omega arith)
total_two (suc n) a b f h k d = grind (arith, total_le n a f, total_le n b f, total_two n a b f)
