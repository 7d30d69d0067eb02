-- The mesh: where routers stand, which router lies on each side of another, and how far two are apart.
use Rattle.std.specs.Prelude.{ℕ, zero, suc, ◌+◌, ◌-◌, ◌*◌, ◌/◌, ◌%◌, ◌<◌, cond, Some, None, Option, nat_lt}
use Rattle.std.specs.Option.{option_map}
use Rattle.schedule.specs.declared.geometry.Position.{Position}

abbrev pub position : ℕ → ℕ → Position
position column row = record { column = column; row = row }

-- routers are numbered row by row
abbrev pub router_at : ℕ → Position → ℕ
router_at width at = at.row * width + at.column

abbrev pub position_of : ℕ → ℕ → Position
position_of width router = position (router % width) (router / width)

abbrev pub Within : ℕ → ℕ → Position → Type 0
Within width height at = (at.column < width) × (at.row < height)

-- the router on side 0 east, 1 west, 2 south or 3 north, where the mesh has one there; side 4, the router's own core, leads to none
abbrev pub neighbour : ℕ → ℕ → Position → ℕ → Option Position
neighbour width height at zero = cond (nat_lt (at.column + 1) width) (Some (position (at.column + 1) at.row)) None
neighbour width height at (suc zero) = cond (nat_lt 0 at.column) (Some (position (at.column - 1) at.row)) None
neighbour width height at (suc (suc zero)) = cond (nat_lt (at.row + 1) height) (Some (position at.column (at.row + 1))) None
neighbour width height at (suc (suc (suc zero))) = cond (nat_lt 0 at.row) (Some (position at.column (at.row - 1))) None
neighbour width height at (suc (suc (suc (suc side)))) = None

-- the same by router numbers
abbrev pub neighbour_of : ℕ → ℕ → ℕ → ℕ → Option ℕ
neighbour_of width height router side = option_map (router_at width) (neighbour width height (position_of width router) side)

-- hops between two routers: the difference of columns plus the difference of rows
abbrev pub hops : Position → Position → ℕ
hops a b = ((a.column - b.column) + (b.column - a.column)) + ((a.row - b.row) + (b.row - a.row))
