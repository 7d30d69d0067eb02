-- Route rules: by which side a packet leaves a router on its way to another.
use Rattle.std.specs.Prelude.{◌≡◌, ℕ, ◌+◌, ◌≤◌, cond, Some, ◌≢◌, nat_lt}
use Rattle.schedule.specs.declared.geometry.Position.{Position}
use Rattle.schedule.specs.Mesh.{Within, hops, neighbour}

-- on that side of a router there is a neighbour, which is one hop nearer to where the packet goes
abbrev pub Nearer : ℕ → ℕ → Position → Position → ℕ → Type 0
Nearer width height from to side = (next : Position) × (neighbour width height from side ≡ Some next) × (hops next to + 1 ≡ hops from to)

-- what every route rule keeps to, between any two routers of any mesh of at most 8 columns and 8 rows: side 4, the router's own core, is
-- for packets that have arrived and for no others; any other side leads nearer
pub record Routes (side : Position → Position → ℕ) : Type 0 where
  pub arrived : (width height : ℕ) (at : Position) → width ≤ 8 → height ≤ 8 → Within width height at → side at at ≡ 4
  pub only_arrived : (width height : ℕ) (from to : Position) → width ≤ 8 → height ≤ 8 → Within width height from → Within width height to
      → side from to ≡ 4 → from ≡ to
  pub nearer : (width height : ℕ) (from to : Position) → width ≤ 8 → height ≤ 8 → Within width height from → Within width height to
      → (from ≢ to) → Nearer width height from to (side from to)

-- along one axis: the side towards higher numbers or the one towards lower numbers, else the side that is given
abbrev pub along : ℕ → ℕ → ℕ → ℕ → ℕ → ℕ
along from to ahead behind level = cond (nat_lt from to) ahead (cond (nat_lt to from) behind level)

-- east or west where the columns differ
abbrev pub by_column : Position → Position → ℕ → ℕ
by_column from to same_column = along from.column to.column 0 1 same_column

-- south or north where the rows differ
abbrev pub by_row : Position → Position → ℕ → ℕ
by_row from to same_row = along from.row to.row 2 3 same_row

abbrev pub columns_first : Position → Position → ℕ
columns_first from to = by_column from to (by_row from to 4)

abbrev pub rows_first : Position → Position → ℕ
rows_first from to = by_row from to (by_column from to 4)
