-- The offsets built so far.
use Rattle.std.proofs.Common.{◌≡◌, ℕ, ◌<◌, length, get_or}
use Rattle.schedule.specs.Built.{built_entry}
use Rattle.schedule.specs.Timetable.{ports}
use Rattle.schedule.proofs.allowed.AllowedSizes.built_offsets.Given as goal

abbrev pub invariant-loop-k : goal.invariant-loop-k
invariant-loop-k l =
    (length l.offset-items ≡ ports l.self.sizes)
    × ((j : ℕ) → j < l.k → get_or l.offset-items j 0 ≡ built_entry l.self.sizes l.self.period j)
