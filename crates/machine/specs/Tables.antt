-- The tables of a mesh, and how a domain's part is read from them.
use Rattle.std.specs.Prelude.{ℕ, zero, suc, ◌+◌, ◌-◌, ◌*◌, ◌%◌, Bool, true, cond, ◌&&◌, List, [], ◌∷◌, map, take, drop, nat_le, nat_lt, slice_index, slice_index_or}
use Rattle.std.specs.List.{range_with_len, flat_map}
use Rattle.machine.specs.declared.tables.Place.{Place}
use Rattle.machine.specs.declared.tables.Queue.{Queue}
use Rattle.machine.specs.Machine.{Machine, depth, hop, inside, queue_number, queues, routers}
use Rattle.machine.specs.Packets.{Packet, View}

-- the cycle and the four tables that a caller lends
pub record Tables (P : Type 0) : Type 0 where
  pub cycle : ℕ
  pub queues : List Queue
  pub places : List Place
  pub payloads : List P
  pub words : List ℕ

abbrev pub tables : {P : Type 0} → ℕ → List Queue → List Place → List P → List ℕ → Tables P
tables cycle queues places payloads words =
    record { cycle = cycle; queues = queues; places = places; payloads = payloads; words = words }

abbrev pub no_packets : Queue
no_packets = record { first = 0; count = 0 }

unfoldable pub queue_at : {P : Type 0} → Tables P → ℕ → Queue
queue_at t q = slice_index_or t.queues q no_packets

unfoldable pub place_at : {P : Type 0} → Tables P → ℕ → Place
place_at t k = slice_index_or t.places k (record { destination = 0; source = 0; ready = 0 })

-- entry k of a list: one, or none past its end
unfoldable pub at : {X : Type 0} → List X → ℕ → List X
at xs k = take 1 (drop k xs)

unfoldable pub packet_at : {P : Type 0} → Tables P → ℕ → List (Packet P)
packet_at {P} t k =
    map (λ (x : P). record { destination = (place_at t k).destination; source = (place_at t k).source; ready = (place_at t k).ready; payload = x })
    (at t.payloads k)

-- packet j of queue q is at place q × depth + (first + j) mod depth
unfoldable pub packets : {P : Type 0} → Machine → Tables P → ℕ → List (Packet P)
packets m t q =
    flat_map (λ (j : ℕ). packet_at t (q * depth m + ((queue_at t q).first + j) % depth m)) (range_with_len 0 (queue_at t q).count)

-- a domain's part of the mesh
unfoldable pub view : {P : Type 0} → Machine → Tables P → ℕ → View P
view m t domain = record {
  cycle = t.cycle;
  queue = λ router side. cond (inside m router side) (packets m t (queue_number m router side domain)) [];
  word = λ router port. cond (inside m router port) (slice_index t.words (queue_number m router port domain)) 0;
}

-- a packet that no opening leads away from: within the mesh, and ready within a hop of the present cycle
unfoldable pub sound_packet : {P : Type 0} → Machine → ℕ → Packet P → Bool
sound_packet m cycle x = nat_lt x.destination (routers m) && (nat_lt x.source (routers m) && nat_le x.ready (cycle + hop m - 1))

unfoldable pub sound_packets : {P : Type 0} → Machine → ℕ → List (Packet P) → Bool
sound_packets m cycle [] = true
sound_packets m cycle (x ∷ xs) = sound_packet m cycle x && sound_packets m cycle xs

-- a queue record that begins at one of the queue's places and holds no more packets than there are, each of them sound
unfoldable pub sound_queue : {P : Type 0} → Machine → Tables P → ℕ → Bool
sound_queue m t q =
    nat_lt (queue_at t q).first (depth m) && (nat_le (queue_at t q).count (depth m) && sound_packets m t.cycle (packets m t q))

unfoldable pub all_below : (ℕ → Bool) → ℕ → Bool
all_below passes zero = true
all_below passes (suc n) = passes n && all_below passes n

-- every queue that the machine needs is sound
unfoldable pub sound : {P : Type 0} → Machine → Tables P → Bool
sound m t = all_below (sound_queue m t) (queues m)
