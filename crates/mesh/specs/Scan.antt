-- Soundness of the queue records and the held packets, told place by place.
use Rattle.std.specs.Prelude.{ℕ, ◌+◌, ◌-◌, ◌*◌, ◌%◌, Bool, cond, ◌&&◌, List, nat_le, nat_lt, slice_index_or}
use Rattle.schedule.specs.declared.plan.Plan.{Plan}
use Rattle.machine.specs.declared.tables.Queue.{Queue}
use Rattle.machine.specs.declared.tables.Place.{Place}
use Rattle.machine.specs.Tables.{all_below}
use Rattle.mesh.specs.Heads.{no_queue, no_place, queue_count, routers}

-- a packet within the mesh, ready within a hop of the present cycle
abbrev pub sound_place : Plan → ℕ → Place → Bool
sound_place plan cycle x =
    nat_lt x.destination (routers plan) && (nat_lt x.source (routers plan) && nat_le x.ready (cycle + plan.sizes.hop - 1))

-- packet j of queue q
unfoldable pub sound_held : Plan → ℕ → List Place → ℕ → ℕ → ℕ → Bool
sound_held plan cycle places q first j =
    sound_place plan cycle (slice_index_or places (q * plan.sizes.depth + (first + j) % plan.sizes.depth) no_place)

-- whether place s of a queue of b places holds a packet
abbrev pub held : ℕ → Queue → ℕ → Bool
held b x s = nat_lt (cond (nat_lt s x.first) (s + b) s - x.first) x.count

-- the same packet, where the b places of its queue are a list of their own
unfoldable pub sound_in : Plan → ℕ → ℕ → List Place → ℕ → ℕ → Bool
sound_in plan cycle b ring first j = sound_place plan cycle (slice_index_or ring ((first + j) % b) no_place)

-- a queue with b places, told its record and those places
unfoldable pub sound_ring : Plan → ℕ → ℕ → Queue → List Place → Bool
sound_ring plan cycle b x ring = nat_lt x.first b && (nat_le x.count b && all_below (sound_in plan cycle b ring x.first) x.count)

unfoldable pub sound_queue : Plan → ℕ → List Queue → List Place → ℕ → Bool
sound_queue plan cycle queues places q =
    let x = slice_index_or queues q no_queue in
    nat_lt x.first plan.sizes.depth
    && (nat_le x.count plan.sizes.depth && all_below (sound_held plan cycle places q x.first) x.count)

unfoldable pub sound : Plan → ℕ → List Queue → List Place → Bool
sound plan cycle queues places = all_below (sound_queue plan cycle queues places) (queue_count plan)
