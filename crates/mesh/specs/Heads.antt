-- The first packets of the queues as a cycle begins, and what they ask for.
use Rattle.std.specs.Prelude.{ℕ, zero, suc, ◌+◌, ◌*◌, ◌^◌, ◌<◌, ◌≤◌, Bool, cond, ◌&&◌, List, length, Some, None, Option, ◌==◌, nat_le, nat_lt, slice_index_or}
use Rattle.schedule.specs.declared.geometry.Position.{Position}
use Rattle.schedule.specs.declared.plan.Plan.{Plan}
use Rattle.schedule.specs.Mesh.{position_of}
use Rattle.schedule.specs.Timetable as timetable
use Rattle.machine.specs.declared.tables.Queue.{Queue}
use Rattle.machine.specs.declared.tables.Place.{Place}

abbrev pub routers : Plan → ℕ
routers plan = timetable.routers plan.sizes

-- each router has five ports; port or side i of router r has the number r * 5 + i
abbrev pub ports : Plan → ℕ
ports plan = routers plan * 5

-- the queue of side k for domain d has the number k * domains + d, and so has the word of port k
abbrev pub queue_count : Plan → ℕ
queue_count plan = ports plan * plan.sizes.domains

abbrev pub no_queue : Queue
no_queue = record { first = 0; count = 0 }

abbrev pub no_place : Place
no_place = record { destination = 0; source = 0; ready = 0 }

-- what the packets of a cycle ask by: the plan, the route rule's meaning, the cycle and two tables as it begins
pub record Outset : Type 0 where
  pub plan : Plan
  pub route : Position → Position → ℕ
  pub cycle : ℕ
  pub queues : List Queue
  pub places : List Place

abbrev pub outset : Plan → (Position → Position → ℕ) → ℕ → List Queue → List Place → Outset
outset plan route cycle queues places =
    record { plan = plan; route = route; cycle = cycle; queues = queues; places = places }

-- the place of the first packet of queue q, and that packet
abbrev pub head_place : Outset → ℕ → ℕ
head_place v q = q * v.plan.sizes.depth + (slice_index_or v.queues q no_queue).first

abbrev pub head : Outset → ℕ → Place
head v q = slice_index_or v.places (head_place v q) no_place

-- the side that the route rule names for that packet at router r
abbrev pub head_side : Outset → ℕ → ℕ → ℕ
head_side v r q = v.route (position_of v.plan.sizes.width r) (position_of v.plan.sizes.width (head v q).destination)

-- whether queue q of router r asks for port p
unfoldable pub asks : Outset → ℕ → ℕ → ℕ → Bool
asks v r q p =
    nat_lt 0 (slice_index_or v.queues q no_queue).count && (nat_le (head v q).ready v.cycle && head_side v r q == p)

-- the port that queue q of router r asks for, if it asks for one
abbrev pub wanted : Outset → ℕ → ℕ → Option ℕ
wanted v r q = cond (nat_lt 0 (slice_index_or v.queues q no_queue).count && nat_le (head v q).ready v.cycle) (Some (head_side v r q)) None

-- the numbers below n that pass a test, as a set of bits
unfoldable pub mask : (ℕ → Bool) → ℕ → ℕ
mask f zero = 0
mask f (suc i) = mask f i + cond (f i) (2 ^ i) 0

-- whether side i of router r asks for port p in domain d, and the set of such sides
abbrev pub asker : Outset → ℕ → ℕ → ℕ → ℕ → Bool
asker v r p d i = asks v r ((r * 5 + i) * v.plan.sizes.domains + d) p

abbrev pub asking_set : Outset → ℕ → ℕ → ℕ → ℕ
asking_set v r p d = mask (asker v r p d) 5

-- tables that are long enough, whose queue records fit their places
pub record Fit (plan : Plan) (queues : List Queue) (places : List Place) : Type 0 where
  pub queues_in : queue_count plan ≤ length queues
  pub places_in : queue_count plan * plan.sizes.depth ≤ length places
  pub firsts : (q : ℕ) → q < queue_count plan → (slice_index_or queues q no_queue).first < plan.sizes.depth
  pub counts : (q : ℕ) → q < queue_count plan → (slice_index_or queues q no_queue).count ≤ plan.sizes.depth
