-- The longest gap from the slots looked at so far; no gap is longer than the period and one.
use Rattle.std.proofs.Common.{◌≡◌, take}
use Rattle.schedule.specs.Search.{largest}
use Rattle.schedule.specs.Turns.{gap_from}
use Rattle.schedule.proofs.plan.Plan.gap.Given as goal

abbrev pub invariant-loop-k : goal.invariant-loop-k
invariant-loop-k l = l.longest ≡ largest (gap_from (take l.self.period l.self.slots) l.domain) l.k
