-- The four calls on lent tables: what each answers, and what it leaves in every table, accepted or refused.
use Rattle.std.specs.Prelude.{ℕ, ◌+◌, ◌-◌, ◌*◌, Bool, cond, ◌&&◌, List, [], ◌∷◌, length, Some, None, Ok, Err, Option, Result, nat_le, nat_lt}
use Rattle.schedule.specs.declared.refusal.Refusal.{Refusal}
use Rattle.schedule.specs.declared.refusal.Refusal.TheVariants.{TableTooShort, UnsoundTable, OutsideMesh, NoSuchDomain, QueueFull, CyclesSpent}
use Rattle.schedule.specs.Verdict.{earliest}
use Rattle.machine.specs.declared.tables.Delivery.{Delivery}
use Rattle.machine.specs.Machine.{Machine, depth, domains, owner, queue_number, queues, routers}
use Rattle.machine.specs.Moves.{edit, moved, cycle_moves, injection_moves, handed_over, record_of, payload_beside}
use Rattle.machine.specs.Packets.{Packet}
use Rattle.machine.specs.Tables.{Tables, no_packets, queue_at, sound}

-- the lengths of the tables that a call is lent, a step the delivery tables too
pub record Lengths : Type 0 where
  pub queues : ℕ
  pub places : ℕ
  pub payloads : ℕ
  pub words : ℕ
  pub deliveries : ℕ
  pub delivered : ℕ

unfoldable pub lengths : {P : Type 0} → Tables P → ℕ → ℕ → Lengths
lengths t deliveries delivered = record {
  queues = length t.queues;
  places = length t.places;
  payloads = length t.payloads;
  words = length t.words;
  deliveries = deliveries;
  delivered = delivered;
}

-- every table is as long as the machine needs
unfoldable pub long_enough : Machine → Lengths → Bool
long_enough m l =
    nat_le (queues m) l.queues && (nat_le (queues m * depth m) l.places && (nat_le (queues m * depth m) l.payloads && nat_le (queues m) l.words))

-- and so are the delivery tables
unfoldable pub step_long_enough : Machine → Lengths → Bool
step_long_enough m l = long_enough m l && (nat_le (routers m) l.deliveries && nat_le (routers m) l.delivered)

-- a check: what it asks, and the refusal where that is not so
unfoldable pub check : Bool → Refusal → Option Refusal
check passes why = cond passes None (Some why)

-- the checks of each call in their order; `sound` says whether the tables are, `count` is that of the queue that the call names
unfoldable pub injection_refusal : Machine → Bool → Lengths → ℕ → ℕ → ℕ → ℕ → Option Refusal
injection_refusal m sound l router domain destination count =
    earliest
    (check (long_enough m l) TableTooShort ∷ check sound UnsoundTable
    ∷ check (nat_lt router (routers m) && nat_lt destination (routers m)) OutsideMesh ∷ check (nat_lt domain (domains m)) NoSuchDomain
    ∷ check (nat_lt count (depth m)) QueueFull ∷ [])

unfoldable pub room_refusal : Machine → Bool → Lengths → ℕ → ℕ → Option Refusal
room_refusal m sound l router domain =
    earliest
    (check (long_enough m l) TableTooShort ∷ check sound UnsoundTable ∷ check (nat_lt router (routers m)) OutsideMesh
    ∷ check (nat_lt domain (domains m)) NoSuchDomain ∷ [])

unfoldable pub step_refusal : Machine → Bool → Lengths → ℕ → Option Refusal
step_refusal m sound l cycle =
    earliest
    (check (step_long_enough m l) TableTooShort ∷ check sound UnsoundTable ∷ check (nat_lt cycle 4294967295) CyclesSpent ∷ [])

unfoldable pub opening_refusal : Machine → Lengths → Option Refusal
opening_refusal m l = earliest (check (long_enough m l) TableTooShort ∷ [])

abbrev pub Answer : Type 0
Answer = Result ℕ Refusal

unfoldable pub answer : Option Refusal → ℕ → Answer
answer None n = Ok n
answer (Some why) n = Err why

unfoldable pub if_accepted : {X : Type 0} → Answer → X → X → X
if_accepted (Ok n) x y = x
if_accepted (Err why) x y = y

-- a call by its arguments: an injection at a router, of a domain, to a destination; a question for the room of a router's own queue;
-- a step, with the delivery tables that it is lent
pub data Call (P : Type 0) : Type 0 where
  inject : ℕ → ℕ → ℕ → P → Call P
  room : ℕ → ℕ → Call P
  step : List Delivery → List P → Call P

-- the queue into which a router's own core puts a domain's packets
unfoldable pub own_queue : Machine → ℕ → ℕ → ℕ
own_queue m router domain = queue_number m router 4 domain

-- what each call answers: an injection the queue's new count, the room question the places that are free, a step the cycle that it ran
unfoldable pub answer_to : {P : Type 0} → Machine → Tables P → Call P → Answer
answer_to m t (inject router domain destination payload) =
    let count = (queue_at t (own_queue m router domain)).count in
    answer (injection_refusal m (sound m t) (lengths t 0 0) router domain destination count) (count + 1)
answer_to m t (room router domain) =
    answer (room_refusal m (sound m t) (lengths t 0 0) router domain) (depth m - (queue_at t (own_queue m router domain)).count)
answer_to m t (step deliveries delivered) =
    answer (step_refusal m (sound m t) (lengths t (length deliveries) (length delivered)) t.cycle) t.cycle

-- what a call answers, and what it leaves in the tables and in a step's delivery tables
pub record Outcome (P : Type 0) : Type 0 where
  pub answer : Answer
  pub tables : Tables P
  pub deliveries : List Delivery
  pub delivered : List P

abbrev pub outcome_of : {P : Type 0} → Answer → Tables P → List Delivery → List P → Outcome P
outcome_of answer t deliveries delivered =
    record { answer = answer; tables = t; deliveries = deliveries; delivered = delivered }

-- a packet that a router's own core puts in is ready at once
unfoldable pub fresh : {P : Type 0} → ℕ → ℕ → ℕ → P → Packet P
fresh cycle router destination payload = record { destination = destination; source = router; ready = cycle; payload = payload }

unfoldable pub accepted : {P : Type 0} → Machine → Tables P → Call P → Outcome P
accepted m t (inject router domain destination payload) =
    outcome_of (answer_to m t (inject router domain destination payload))
    (moved m (injection_moves t (own_queue m router domain) (fresh t.cycle router destination payload)) t.cycle t) [] []
accepted m t (room router domain) = outcome_of (answer_to m t (room router domain)) t [] []
accepted m t (step deliveries delivered) =
    outcome_of (answer_to m t (step deliveries delivered))
    (moved m (cycle_moves m t) (t.cycle + 1) t)
    (edit 0 (routers m) (λ router _. record_of (owner m router 4 t.cycle) (handed_over m t router)) deliveries)
    (edit 0 (routers m) (λ router x. payload_beside (handed_over m t router) x) delivered)

-- a refused call leaves all as it was
unfoldable pub unchanged : {P : Type 0} → Answer → Tables P → Call P → Outcome P
unchanged a t (inject router domain destination payload) = outcome_of a t [] []
unchanged a t (room router domain) = outcome_of a t [] []
unchanged a t (step deliveries delivered) = outcome_of a t deliveries delivered

-- what a call does
unfoldable pub outcome : {P : Type 0} → Machine → Tables P → Call P → Outcome P
outcome m t call = if_accepted (answer_to m t call) (accepted m t call) (unchanged (answer_to m t call) t call)

-- opening: cycle 0, every queue empty, every word 0
unfoldable pub opened : {P : Type 0} → Machine → Tables P → Tables P
opened m t = record {
  cycle = 0;
  queues = edit 0 (queues m) (λ _ _. no_packets) t.queues;
  places = t.places;
  payloads = t.payloads;
  words = edit 0 (queues m) (λ _ _. 0) t.words;
}

unfoldable pub opening_answer : {P : Type 0} → Machine → Tables P → Answer
opening_answer m t = answer (opening_refusal m (lengths t 0 0)) 0

unfoldable pub opening : {P : Type 0} → Machine → Tables P → Outcome P
opening m t = let a = opening_answer m t in outcome_of a (if_accepted a (opened m t) t) [] []
