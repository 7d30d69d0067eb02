-- What packets that leave and join make of the tables. What lies beyond the needed length, and places without a packet, stay as they are.
use Rattle.std.specs.Prelude.{ℕ, zero, suc, ◌+◌, ◌-◌, ◌*◌, ◌/◌, ◌%◌, Bool, false, cond, List, [], ◌∷◌, length, ◌==◌, slice_index}
use Rattle.machine.specs.declared.tables.Delivery.{Delivery}
use Rattle.machine.specs.declared.tables.Place.{Place}
use Rattle.machine.specs.declared.tables.Queue.{Queue}
use Rattle.machine.specs.Cycle.{bit, leaves, joins, next_word, sends}
use Rattle.machine.specs.Machine.{Machine, depth, domains, owner, queues}
use Rattle.machine.specs.Packets.{Packet}
use Rattle.machine.specs.Tables.{Tables, queue_at, view}

-- entry k, for each k from a on, n in all, becomes f k of the old one
unfoldable pub edit : {X : Type 0} → ℕ → ℕ → (ℕ → X → X) → List X → List X
edit a n f [] = []
edit a zero f (x ∷ xs) = x ∷ xs
edit a (suc n) f (x ∷ xs) = f a x ∷ edit (a + 1) n f xs

-- for each queue number: whether the first packet leaves, what joins the end, and the next word
pub record Moves (P : Type 0) : Type 0 where
  pub leaving : ℕ → Bool
  pub joining : ℕ → List (Packet P)
  pub word : ℕ → ℕ

-- leaving raises the first place by one round the ring; the count falls by what leaves and rises by what joins
unfoldable pub queue_after : ℕ → Bool → ℕ → Queue → Queue
queue_after places leaving joining q =
    record { first = cond leaving ((q.first + 1) % places) q.first; count = q.count - bit leaving 1 + joining }

-- the place behind the last packet of a queue
unfoldable pub is_end : ℕ → Queue → ℕ → Bool
is_end places q k = k == (q.first + q.count) % places

unfoldable pub place_after : {P : Type 0} → Bool → List (Packet P) → Place → Place
place_after here [] old = old
place_after here (x ∷ xs) old = cond here (record { destination = x.destination; source = x.source; ready = x.ready }) old

unfoldable pub payload_after : {P : Type 0} → Bool → List (Packet P) → P → P
payload_after here [] old = old
payload_after here (x ∷ xs) old = cond here x.payload old

unfoldable pub moved : {P : Type 0} → Machine → Moves P → ℕ → Tables P → Tables P
moved m s cycle t =
    let b = depth m in
    record {
      cycle = cycle;
      queues = edit 0 (queues m) (λ q x. queue_after b (s.leaving q) (length (s.joining q)) x) t.queues;
      places = edit 0 (queues m * b) (λ k x. place_after (is_end b (queue_at t (k / b)) (k % b)) (s.joining (k / b)) x) t.places;
      payloads = edit 0 (queues m * b) (λ k x. payload_after (is_end b (queue_at t (k / b)) (k % b)) (s.joining (k / b)) x) t.payloads;
      words = edit 0 (queues m) (λ q _. s.word q) t.words;
    }

-- the domain, the side and the router of a queue number
unfoldable pub domain_of : Machine → ℕ → ℕ
domain_of m q = q % domains m

unfoldable pub side_of : Machine → ℕ → ℕ
side_of m q = q / domains m % 5

unfoldable pub router_of : Machine → ℕ → ℕ
router_of m q = q / domains m / 5

-- the moves of a cycle: each queue's by its own domain
unfoldable pub cycle_moves : {P : Type 0} → Machine → Tables P → Moves P
cycle_moves m t = record {
  leaving = λ q. leaves m (domain_of m q) (view m t (domain_of m q)) (router_of m q) (side_of m q);
  joining = λ q. joins m (domain_of m q) (view m t (domain_of m q)) (router_of m q) (side_of m q);
  word = λ q. next_word m (domain_of m q) (view m t (domain_of m q)) (router_of m q) (side_of m q);
}

-- the move of an injection: one packet joins one queue
unfoldable pub injection_moves : {P : Type 0} → Tables P → ℕ → Packet P → Moves P
injection_moves t q x =
    record { leaving = λ _. false; joining = λ k. cond (k == q) (x ∷ []) []; word = λ k. slice_index t.words k }

-- the packet that a router's local port passes in this cycle: one or none
unfoldable pub handed_over : {P : Type 0} → Machine → Tables P → ℕ → List (Packet P)
handed_over m t router = let domain = owner m router 4 t.cycle in sends m domain (view m t domain) router 4

unfoldable pub record_of : {P : Type 0} → ℕ → List (Packet P) → Delivery
record_of domain [] = record { mark = 0; domain = 0; source = 0 }
record_of domain (x ∷ xs) = record { mark = 1; domain = domain; source = x.source }

-- the payload beside an unmarked record stays
unfoldable pub payload_beside : {P : Type 0} → List (Packet P) → P → P
payload_beside [] old = old
payload_beside (x ∷ xs) old = x.payload
