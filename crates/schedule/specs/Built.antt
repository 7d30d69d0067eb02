-- Offsets by which the turns of each domain run over the mesh as waves, a hop's cycles from router to router.
use Rattle.std.specs.Prelude.{ℕ, zero, suc, ◌+◌, ◌-◌, ◌*◌, ◌/◌, ◌%◌, List, map}
use Rattle.std.specs.List.{range_with_len}
use Rattle.schedule.specs.declared.geometry.Position.{Position}
use Rattle.schedule.specs.declared.sizes.Sizes.{Sizes}
use Rattle.schedule.specs.Mesh.{position_of}
use Rattle.schedule.specs.Timetable.{ports}

-- the remainder, from 0 to m - 1, of n and of minus n
abbrev pub remainder : ℕ → ℕ → ℕ
remainder n m = n % m

abbrev pub minus_remainder : ℕ → ℕ → ℕ
minus_remainder n m = (m - n % m) % m

-- the cycles that the hops from column 0 and row 0 take
abbrev pub cycles_from_corner : Sizes → Position → ℕ
cycles_from_corner sizes at = sizes.hop * (at.column + at.row)

-- minus those cycles for the ports east and south, those cycles for west and north; the local port has what the port east has
abbrev pub built_offset : ℕ → ℕ → ℕ → ℕ
built_offset period cycles zero = minus_remainder cycles period
built_offset period cycles (suc zero) = remainder cycles period
built_offset period cycles (suc (suc zero)) = minus_remainder cycles period
built_offset period cycles (suc (suc (suc zero))) = remainder cycles period
built_offset period cycles (suc (suc (suc (suc port)))) = minus_remainder cycles period

unfoldable pub built_entry : Sizes → ℕ → ℕ → ℕ
built_entry sizes period k = built_offset period (cycles_from_corner sizes (position_of sizes.width (k / 5))) (k % 5)

unfoldable pub built : Sizes → ℕ → List ℕ
built sizes period = map (built_entry sizes period) (range_with_len 0 (ports sizes))
