-- A machine: a timetable, the meaning of an arbiter and that of a route rule; and how its routers are linked.
use Rattle.std.specs.Prelude.{ℕ, zero, suc, ◌+◌, ◌*◌, Bool, ◌&&◌, List, nat_lt}
use Rattle.std.specs.Option.{option_to_list}
use Rattle.schedule.specs.declared.geometry.Position.{Position}
use Rattle.schedule.specs.declared.plan.Plan.{Plan}
use Rattle.schedule.specs.Mesh.{position_of, neighbour_of}
use Rattle.schedule.specs.Plans.{timetable_of}
use Rattle.schedule.specs.Timetable as timetable
use Rattle.schedule.specs.Timetable.{Timetable}
use Rattle.schedule.specs.Turns as turns

pub record Machine : Type 0 where
  pub timetable : Timetable
  pub choose : ℕ → ℕ → ℕ × ℕ
  pub route : Position → Position → ℕ

abbrev pub machine : Plan → (ℕ → ℕ → ℕ × ℕ) → (Position → Position → ℕ) → Machine
machine plan choose route = record { timetable = timetable_of plan; choose = choose; route = route }

unfoldable pub width : Machine → ℕ
width m = m.timetable.sizes.width

unfoldable pub domains : Machine → ℕ
domains m = m.timetable.sizes.domains

-- places in a queue
unfoldable pub depth : Machine → ℕ
depth m = m.timetable.sizes.depth

-- cycles for a hop
unfoldable pub hop : Machine → ℕ
hop m = m.timetable.sizes.hop

unfoldable pub routers : Machine → ℕ
routers m = timetable.routers m.timetable.sizes

-- a router of the mesh and one of its five sides
unfoldable pub inside : Machine → ℕ → ℕ → Bool
inside m router side = nat_lt router (routers m) && nat_lt side 5

-- the domain that a port belongs to in a cycle
unfoldable pub owner : Machine → ℕ → ℕ → ℕ → ℕ
owner m router port cycle = turns.owner m.timetable router port cycle

-- the side that the route rule names at a router for a packet to another
unfoldable pub towards : Machine → ℕ → ℕ → ℕ
towards m router destination = m.route (position_of (width m) router) (position_of (width m) destination)

-- the router beyond a side: one or none
unfoldable pub beyond : Machine → ℕ → ℕ → List ℕ
beyond m router side = option_to_list (neighbour_of (width m) m.timetable.sizes.height router side)

-- the side on which a router has the neighbour that has it on this side
unfoldable pub opposite : ℕ → ℕ
opposite zero = 1
opposite (suc zero) = 0
opposite (suc (suc zero)) = 3
opposite (suc (suc (suc zero))) = 2
opposite (suc (suc (suc (suc side)))) = 4

-- each router has a queue for each side and domain, and a word for each port and domain
unfoldable pub queues : Machine → ℕ
queues m = routers m * 5 * domains m

-- the number of the queue of a router's side for a domain; the word of a port has the same number
unfoldable pub queue_number : Machine → ℕ → ℕ → ℕ → ℕ
queue_number m router side domain = (router * 5 + side) * domains m + domain
