-- The number of a set of asking sides tells of each side whether it asks.
use Rattle.std.proofs.Common.{◌≡◌, ℕ, zero, suc, ◌+◌, ◌*◌, ◌/◌, ◌%◌, ◌<◌, ◌≤◌, Bool, true, false, eqb, ap, ◌∙◌, mod-eq_of_lt, arith}
use Rattle.rules.specs.Arbiters as arbiters
use Rattle.machine.specs.Cycle.{asks, bit, asking}
use Rattle.machine.specs.Machine.{Machine}
use Rattle.machine.specs.Packets.{View}

-- a side in a set of sides adds its value times one or nothing
digit : (b : Bool) (value : ℕ) → (bit b value ≡ value * bit b 1) × (bit b 1 ≤ 1)
unfolding bit
digit b value = grind arith

is_one : (b : Bool) (n : ℕ) → n ≡ bit b 1 → eqb n 1 ≡ b
unfolding bit
is_one b n e = grind arith

module _ (a b c d e : Bool) where
  abbrev set : ℕ
  set = bit a 1 + (bit b 2 + (bit c 4 + (bit d 8 + bit e 16)))

  -- its five binary digits
  digits : (set < 32) × (set / 1 % 2 ≡ bit a 1) × (set / 2 % 2 ≡ bit b 1) × (set / 4 % 2 ≡ bit c 1) × (set / 8 % 2 ≡ bit d 1)
      × (set / 16 % 2 ≡ bit e 1)
  digits =
      let x = digit a 1 in
      let y = digit b 2 in
      let z = digit c 4 in
      let u = digit d 8 in
      let w = digit e 16 in
      let last : set / 16 ≡ bit e 1 = omega arith in
      (omega arith, omega arith, omega arith, omega arith, omega arith, ap (λ (n : ℕ). n % 2) last ∙ mod-eq_of_lt (omega arith))

module _ {P : Type 0} (c : Machine) (v : View P) (r p : ℕ) where
  pub asking_tells : (i : ℕ) → i < 5 → arbiters.asks (asking c v r p) i ≡ asks c v.cycle r p (v.queue r i)
  unfolding asking
  asking_tells zero h = is_one _ _ (digits _ _ _ _ _).1
  asking_tells (suc zero) h = is_one _ _ (digits _ _ _ _ _).2
  asking_tells (suc (suc zero)) h = is_one _ _ (digits _ _ _ _ _).3
  asking_tells (suc (suc (suc zero))) h = is_one _ _ (digits _ _ _ _ _).4
  asking_tells (suc (suc (suc (suc zero)))) h = is_one _ _ (digits _ _ _ _ _).5
  asking_tells (suc (suc (suc (suc (suc i))))) h = absurd (omega arith)

  pub asking_low : asking c v r p < 32
  unfolding asking
  asking_low = (digits _ _ _ _ _).0

none_ask : (i : ℕ) → i < 5 → arbiters.asks 0 i ≡ false
none_ask i h = grind arith

-- where a side asks, the set is not empty
pub some_asks : {P : Type 0} (c : Machine) (v : View P) (r p i : ℕ) → i < 5 → asks c v.cycle r p (v.queue r i) ≡ true → 0 < asking c v r p
some_asks c v r p i h a = grind (arith, asking_tells c v r p i h, none_ask i h)
