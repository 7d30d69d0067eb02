-- The lowest set bit of a set of sides, taken twice in a row, is the first side that asks in an upward order.
use Rattle.std.specs.Prelude.{◌≡◌, ℕ, ◌+◌, ◌*◌, ◌/◌, ◌%◌, ◌^◌, ◌<◌, Bool, true, ◌==◌, bit_or, nat_lt, refl}
use Rattle.std.proofs.Common.{arith}
use Rattle.std.specs.Int.Count.{count_trailing_zeros}
use Rattle.std.proofs.lemmas.Bool.{agree_below_at, cond_both, eqb-true, ltb-true}
use Rattle.rules.specs.Arbiters.{all_sides, contested, first_asking, lists_all, start, upward_from}
use Rattle.rules.specs.Contested.{at_all_sets, at_each_set}

-- the side found in the set twice in a row, shifted to where the search starts
abbrev pub found_in_twice : ℕ → ℕ → ℕ
found_in_twice start sides = (start + count_trailing_zeros 32 (bit_or sides (sides * 32 % 4294967296) / 2 ^ start)) % 5

abbrev finds : ℕ → ℕ → Bool
finds start sides = found_in_twice start sides == first_asking sides (upward_from start)

pub lowest_bit_of_twice : (start sides : ℕ) → start < 5 → contested sides ≡ true
    → found_in_twice start sides ≡ first_asking sides (upward_from start)
unfolding count_trailing_zeros
lowest_bit_of_twice start sides below asked =
    let at_start = agree_below_at (λ s. at_all_sets (finds s)) (λ _. true) 5 start refl below in
    eqb-true _ _ (at_each_set (finds start) at_start sides asked)

-- an upward order lists every side
pub upward_is_whole : (start : ℕ) → start < 5 → lists_all (upward_from start) all_sides ≡ true
upward_is_whole start = agree_below_at (λ s. lists_all (upward_from s) all_sides) (λ _. true) 5 start refl

pub start_below : (kept : ℕ) → start kept < 5
start_below kept = cond_both (nat_lt kept 5) kept 0 (λ s. s < 5) (ltb-true kept 5) (λ _. omega arith)
