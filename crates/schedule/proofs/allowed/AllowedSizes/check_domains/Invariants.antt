-- Every domain looked at so far has a slot.
use Rattle.std.proofs.Common.{◌≡◌, ℕ, ◌<◌, false, eqb}
use Rattle.schedule.specs.Timetable.{share}
use Rattle.schedule.proofs.allowed.AllowedSizes.check_domains.Given as goal

abbrev pub invariant-loop-domain : goal.invariant-loop-domain
invariant-loop-domain l = (d : ℕ) → d < l.domain → eqb (share l.slots d) 0 ≡ false
