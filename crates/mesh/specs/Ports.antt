-- What each port does in a cycle.
use Rattle.std.specs.Prelude.{ℕ, ◌+◌, ◌*◌, ◌/◌, ◌%◌, Bool, false, cond, ◌&&◌, ◌||◌, List, replicate, Some, None, Option, is_some, ◌==◌, nat_lt, slice_index, slice_index_or}
use Rattle.std.specs.Option.{unwrap_or}
use Rattle.schedule.specs.declared.plan.Plan.{Plan}
use Rattle.schedule.specs.Mesh.{neighbour_of}
use Rattle.schedule.specs.Plans.{timetable_of}
use Rattle.schedule.specs.Turns.{turn}
use Rattle.machine.specs.declared.tables.Queue.{Queue}
use Rattle.machine.specs.declared.tables.Place.{Place}
use Rattle.machine.specs.Machine.{opposite}
use Rattle.machine.specs.Moves.{edit}
use Rattle.mesh.specs.declared.moves.Move.{Move}
use Rattle.mesh.specs.Heads.{Outset, no_queue, no_place, asking_set, ports}

-- the domain that port k of the mesh belongs to in a cycle
unfoldable pub owner : Plan → ℕ → ℕ → ℕ
owner plan cycle k = turn (timetable_of plan).slots (cycle + slice_index (timetable_of plan).offsets k)

-- the port or side across the link at port or side k
abbrev pub across_to : ℕ → Option ℕ → Option ℕ
across_to p None = None
across_to p (Some n) = Some (n * 5 + opposite p)

unfoldable pub across : Plan → ℕ → Option ℕ
across plan k = across_to (k % 5) (neighbour_of plan.sizes.width plan.sizes.height (k / 5) (k % 5))

-- whether a queue has room, if it is there
abbrev pub has_room : Plan → List Queue → ℕ → Option ℕ → Bool
has_room plan queues d None = false
has_room plan queues d (Some k) = nat_lt (slice_index_or queues (k * plan.sizes.domains + d) no_queue).count plan.sizes.depth

unfoldable pub room : Plan → List Queue → ℕ → ℕ → Bool
room plan queues k d = k % 5 == 4 || has_room plan queues d (across plan k)

-- whether port k of a table passes a packet, and its move; all of it is read as 0 where there is none
abbrev pub passes_at : List (Option Move) → ℕ → Bool
passes_at moves k = is_some (slice_index_or moves k None)

abbrev pub no_move : Move
no_move = record { owner = 0; winner = 0; next = 0; from = 0; destination = 0; source = 0 }

abbrev pub move_at : List (Option Move) → ℕ → Move
move_at moves k = unwrap_or (slice_index_or moves k None) no_move

-- a port passes the first packet of queue q
abbrev pub passes : Plan → List Queue → List Place → ℕ → ℕ → ℕ → ℕ → Move
passes plan queues places d winner next q =
    let at = q * plan.sizes.depth + (slice_index_or queues q no_queue).first in
    record {
      owner = d;
      winner = winner;
      next = next;
      from = at;
      destination = (slice_index_or places at no_place).destination;
      source = (slice_index_or places at no_place).source;
    }

-- port k in domain d, told the word and the sides that ask
abbrev pub move_by : Plan → List Queue → List Place → ℕ → ℕ → Bool → ℕ → (ℕ × ℕ) → Option Move
move_by plan queues places k d free set picked =
    cond (nat_lt 0 set && free) (Some (passes plan queues places d picked.0 picked.1 ((k / 5 * 5 + picked.0) * plan.sizes.domains + d))) None

unfoldable pub move_in : Outset → (ℕ → ℕ → (ℕ × ℕ)) → List ℕ → ℕ → ℕ → Option Move
move_in v choose words k d =
    move_by v.plan v.queues v.places k d (room v.plan v.queues k d) (asking_set v (k / 5) (k % 5) d)
    (choose (slice_index words (k * v.plan.sizes.domains + d)) (asking_set v (k / 5) (k % 5) d))

abbrev pub move_of : Outset → (ℕ → ℕ → (ℕ × ℕ)) → List ℕ → ℕ → Option Move
move_of v choose words k = move_in v choose words k (owner v.plan v.cycle k)

-- what each port does; a table of moves has a line for each of 320 ports, none past those of the plan
unfoldable pub chosen : Outset → (ℕ → ℕ → (ℕ × ℕ)) → List ℕ → ℕ → Option Move → Option Move
chosen v choose words k old = move_of v choose words k

unfoldable pub moves : Outset → (ℕ → ℕ → (ℕ × ℕ)) → List ℕ → List (Option Move)
moves v choose words = edit 0 (ports v.plan) (chosen v choose words) (replicate 320 None)
