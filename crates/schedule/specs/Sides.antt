-- The numbers of a router's sides.
use Rattle.std.specs.Prelude.{ℕ, zero, suc, Some, None, Option, Result}
use Rattle.std.specs.Option.{ok_or}
use Rattle.schedule.specs.declared.side.NoSuchSide.{NoSuchSide}
use Rattle.schedule.specs.declared.side.Side.{Side}
use Rattle.schedule.specs.declared.side.Side.TheVariants.{East, West, South, North, Local}

abbrev pub side_number : Side → ℕ
side_number East = 0
side_number West = 1
side_number South = 2
side_number North = 3
side_number Local = 4

-- the side that has a number
abbrev pub side_of : ℕ → Option Side
side_of zero = Some East
side_of (suc zero) = Some West
side_of (suc (suc zero)) = Some South
side_of (suc (suc (suc zero))) = Some North
side_of (suc (suc (suc (suc zero)))) = Some Local
side_of (suc (suc (suc (suc (suc number))))) = None

-- the side that has a number, or the number as one that no side has
abbrev pub side_told : ℕ → Result Side NoSuchSide
side_told number = ok_or (side_of number) (record { 0 = number })
