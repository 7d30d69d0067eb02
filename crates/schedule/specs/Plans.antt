-- Plans: the timetable that a plan holds, and what a plan call leaves.
use Rattle.std.specs.Prelude.{◌≡◌, ℕ, Bool, true, false, cond, ◌&&◌, List, [], ◌∷◌, length, take, Some, None, Option, Result, nat_lt}
use Rattle.schedule.specs.declared.geometry.Position.{Position}
use Rattle.schedule.specs.declared.plan.Plan.{Plan}
use Rattle.schedule.specs.declared.refusal.Refusal.{Refusal}
use Rattle.schedule.specs.declared.sizes.Sizes.{Sizes}
use Rattle.schedule.specs.Built.{built}
use Rattle.schedule.specs.Mesh.{position_of, neighbour_of}
use Rattle.schedule.specs.Timetable.{Timetable, timetable, routers, ports, share, OffsetsBelow, WaveRule}
use Rattle.schedule.specs.Turns.{owner, gap}
use Rattle.schedule.specs.Verdict.{verdict, answered, WithinLimits}

-- what lies past the period and the ports in a plan's arrays is 0, so a plan is its timetable and nothing more
abbrev pub timetable_of : Plan → Timetable
timetable_of plan = timetable plan.sizes (take plan.period plan.slots) (take (ports plan.sizes) plan.offsets)

-- what is asked of a list of offsets: five for each router, each below the period, and the wave rule
pub record OffsetsKeep (sizes : Sizes) (period : ℕ) (offsets : List ℕ) : Type 0 where
  pub counted : length offsets ≡ ports sizes
  pub below : OffsetsBelow period offsets
  pub wave : WaveRule sizes period offsets

-- built offsets keep it for every size within its limits
abbrev pub BuiltKeep : Sizes → ℕ → Type 0
BuiltKeep sizes period = WithinLimits sizes period → OffsetsKeep sizes period (built sizes period)

-- one router, one domain, one place in a queue, one cycle for a hop and one slot
abbrev pub smallest : Timetable
smallest = timetable (record { width = 1; height = 1; domains = 1; depth = 1; hop = 1 }) (0 ∷ []) (0 ∷ 0 ∷ 0 ∷ 0 ∷ 0 ∷ [])

-- what a plan call answers, and the timetable that the caller's plan holds afterwards
pub record Outcome : Type 0 where
  pub answer : Result (Unit {0}) Refusal
  pub held : Timetable

abbrev pub outcome : Result (Unit {0}) Refusal → Timetable → Outcome
outcome answer held = record { answer = answer; held = held }

-- an accepted timetable replaces the one held, a refused one leaves it
abbrev pub replaced_by : Option Refusal → Timetable → Timetable → Outcome
replaced_by None new held = outcome (answered None) new
replaced_by (Some why) new held = outcome (answered (Some why)) held

abbrev pub replaced : Timetable → Timetable → Outcome
replaced new held = replaced_by (verdict new) new held

-- an answer about something that the plan has, none about anything else
abbrev pub known : {X : Type 0} → Bool → X → Option X
known true x = Some x
known false x = None

-- the domain that a port belongs to in a cycle, for the routers and ports of the mesh
abbrev pub owner_of : Plan → ℕ → ℕ → ℕ → Option ℕ
owner_of plan router port cycle =
    known (nat_lt router (routers plan.sizes) && nat_lt port 5) (owner (timetable_of plan) router port cycle)

-- a domain's longest gap and its share of the slots, for the plan's domains
abbrev pub gap_of : Plan → ℕ → Option ℕ
gap_of plan domain = known (nat_lt domain plan.sizes.domains) (gap (timetable_of plan).slots domain)

abbrev pub share_of : Plan → ℕ → Option ℕ
share_of plan domain = known (nat_lt domain plan.sizes.domains) (share (timetable_of plan).slots domain)

-- where a router stands, for the routers of the mesh
abbrev pub place_of : Plan → ℕ → Option Position
place_of plan router = known (nat_lt router (routers plan.sizes)) (position_of plan.sizes.width router)

-- the router on a side of another, for the routers of the mesh
abbrev pub beside : Plan → ℕ → ℕ → Option ℕ
beside plan router side =
    cond (nat_lt router (routers plan.sizes)) (neighbour_of plan.sizes.width plan.sizes.height router side) None
