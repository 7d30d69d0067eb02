-- What a plan alone says of a machine, and how long its tables must be.
use Rattle.std.specs.Prelude.{ℕ}
use Rattle.schedule.specs.declared.geometry.Position.{Position}
use Rattle.schedule.specs.declared.plan.Plan.{Plan}
use Rattle.machine.specs.Calls.{Lengths}
use Rattle.machine.specs.Machine.{Machine, machine}

-- of the machine that a plan makes with whichever arbiter and route rule
abbrev pub WithAnyRules : Plan → (Machine → Type 0) → Type 0
WithAnyRules plan holds = (choose : ℕ → ℕ → ℕ × ℕ) (route : Position → Position → ℕ) → holds (machine plan choose route)

-- the lengths of six lent tables
abbrev pub six : ℕ → ℕ → ℕ → ℕ → ℕ → ℕ → Lengths
six queues places payloads words deliveries delivered =
    record { queues = queues; places = places; payloads = payloads; words = words; deliveries = deliveries; delivered = delivered }
