-- One cycle of one domain. Every choice reads the domain's queues and words as the cycle begins.
use Rattle.std.specs.Prelude.{ℕ, ◌+◌, Bool, false, cond, ◌&&◌, ◌||◌, List, [], ◌∷◌, ◌++◌, map, length, take, drop, ◌==◌, nat_le, nat_lt}
use Rattle.std.specs.List.{range_with_len, flat_map}
use Rattle.machine.specs.Machine.{Machine, routers, inside, owner, towards, beyond, opposite, depth, hop}
use Rattle.machine.specs.Packets.{Packet, View, Arrival}

-- a queue asks for a port if its first packet is ready and its route names the port
unfoldable pub asks : {P : Type 0} → Machine → ℕ → ℕ → ℕ → List (Packet P) → Bool
asks m cycle router port [] = false
asks m cycle router port (x ∷ xs) = nat_le x.ready cycle && towards m router x.destination == port

-- a side in a set of sides, which has bit i for side i
unfoldable pub bit : Bool → ℕ → ℕ
bit in_set value = cond in_set value 0

-- the set of the sides of a router that ask for a port
unfoldable pub asking : {P : Type 0} → Machine → View P → ℕ → ℕ → ℕ
asking m v router port =
    let side = λ (i : ℕ). asks m v.cycle router port (v.queue router i) in
    bit (side 0) 1 + (bit (side 1) 2 + (bit (side 2) 4 + (bit (side 3) 8 + bit (side 4) 16)))

-- the queue that a port feeds has fewer packets than places; the router's own core always has room
unfoldable pub room_beyond : {P : Type 0} → Machine → View P → ℕ → List ℕ → Bool
room_beyond m v port [] = false
room_beyond m v port (next ∷ _) = nat_lt (length (v.queue next (opposite port))) (depth m)

unfoldable pub room : {P : Type 0} → Machine → View P → ℕ → ℕ → Bool
room m v router port = port == 4 || room_beyond m v port (beyond m router port)

-- a port grants a packet of the domain if it is the domain's turn, a side asks and there is room
unfoldable pub grants : {P : Type 0} → Machine → ℕ → View P → ℕ → ℕ → Bool
grants m domain v router port = owner m router port v.cycle == domain && (nat_lt 0 (asking m v router port) && room m v router port)

-- what the arbiter answers: the winner, and the next word
unfoldable pub winner : {P : Type 0} → Machine → View P → ℕ → ℕ → ℕ
winner m v router port = (m.choose (v.word router port) (asking m v router port)).0

unfoldable pub next_word : {P : Type 0} → Machine → ℕ → View P → ℕ → ℕ → ℕ
next_word m domain v router port =
    cond (grants m domain v router port) (m.choose (v.word router port) (asking m v router port)).1 (v.word router port)

-- the first packet of a queue leaves if the port that its route names grants and the queue's side wins
unfoldable pub first_leaves : {P : Type 0} → Machine → ℕ → View P → ℕ → ℕ → List (Packet P) → Bool
first_leaves m domain v router side [] = false
first_leaves m domain v router side (x ∷ xs) =
    let port = towards m router x.destination in grants m domain v router port && winner m v router port == side

unfoldable pub leaves : {P : Type 0} → Machine → ℕ → View P → ℕ → ℕ → Bool
leaves m domain v router side = first_leaves m domain v router side (v.queue router side)

-- what goes out by a port: one packet or none
unfoldable pub sends : {P : Type 0} → Machine → ℕ → View P → ℕ → ℕ → List (Packet P)
sends m domain v router port = cond (grants m domain v router port) (take 1 (v.queue router (winner m v router port))) []

-- a packet on its way is ready again a hop later
unfoldable pub ready_at : {P : Type 0} → ℕ → Packet P → Packet P
ready_at cycle x = record { destination = x.destination; source = x.source; ready = cycle; payload = x.payload }

-- what joins the end of a queue: what the neighbour on its side sends by the opposite port
unfoldable pub joins : {P : Type 0} → Machine → ℕ → View P → ℕ → ℕ → List (Packet P)
joins m domain v router side =
    map (ready_at (v.cycle + hop m)) (flat_map (λ (next : ℕ). sends m domain v next (opposite side)) (beyond m router side))

unfoldable pub stays : {P : Type 0} → Machine → ℕ → View P → ℕ → ℕ → List (Packet P)
stays m domain v router side = cond (leaves m domain v router side) (drop 1 (v.queue router side)) (v.queue router side)

-- the domain's part of the mesh after the cycle
unfoldable pub after : {P : Type 0} → Machine → ℕ → View P → View P
after m domain v = record {
  cycle = v.cycle + 1;
  queue = λ router side. cond (inside m router side) (stays m domain v router side ++ joins m domain v router side) [];
  word = λ router port. cond (inside m router port) (next_word m domain v router port) 0;
}

-- what the cycle delivers to the domain, router by router
unfoldable pub arrival : {P : Type 0} → ℕ → ℕ → Packet P → Arrival P
arrival cycle router x = record { cycle = cycle; router = router; source = x.source; payload = x.payload }

unfoldable pub delivers : {P : Type 0} → Machine → ℕ → View P → List (Arrival P)
delivers m domain v = flat_map (λ (router : ℕ). map (arrival v.cycle router) (sends m domain v router 4)) (range_with_len 0 (routers m))
