-- Runs: a mesh that is lent anew to each call of a list, and what a domain has of the run.
use Rattle.std.specs.Prelude.{ℕ, ◌+◌, ◌*◌, min, Bool, true, cond, ◌&&◌, List, [], ◌∷◌, ◌++◌, map, length, take, drop, filter, ◌==◌}
use Rattle.machine.specs.declared.tables.Delivery.{Delivery}
use Rattle.machine.specs.declared.tables.Place.{Place}
use Rattle.machine.specs.declared.tables.Queue.{Queue}
use Rattle.machine.specs.Calls as calls
use Rattle.machine.specs.Calls.{Lengths, Answer, if_accepted, Call, Outcome, outcome, opened}
use Rattle.machine.specs.Machine.{Machine, depth, queues, routers}
use Rattle.machine.specs.Packets.{View, Arrival}
use Rattle.machine.specs.Tables.{Tables, view}

-- how a call is lent one table of the mesh: whole, with anything behind it, or only its first entries
pub data Loan (X : Type 0) : Type 0 where
  whole : List X → Loan X
  front : ℕ → Loan X

unfoldable pub lent : {X : Type 0} → Loan X → List X → List X
lent (whole behind) xs = xs ++ behind
lent (front n) xs = take n xs

-- the table afterwards: what came back, and what was not lent
unfoldable pub back : {X : Type 0} → List X → List X → List X
back xs came = take (length xs) (came ++ drop (length came) xs)

-- a call, and how it is lent the four tables
pub record Event (P : Type 0) : Type 0 where
  pub queues : Loan Queue
  pub places : Loan Place
  pub payloads : Loan P
  pub words : Loan ℕ
  pub call : Call P

unfoldable pub lend : {P : Type 0} → Event P → Tables P → Tables P
lend e t = record {
  cycle = t.cycle;
  queues = lent e.queues t.queues;
  places = lent e.places t.places;
  payloads = lent e.payloads t.payloads;
  words = lent e.words t.words;
}

unfoldable pub take_back : {P : Type 0} → Tables P → Tables P → Tables P
take_back t came = record {
  cycle = came.cycle;
  queues = back t.queues came.queues;
  places = back t.places came.places;
  payloads = back t.payloads came.payloads;
  words = back t.words came.words;
}

-- what one call of a run does to the tables that it is lent, and the mesh after it
unfoldable pub happens : {P : Type 0} → Machine → Tables P → Event P → Outcome P
happens m t e = outcome m (lend e t) e.call

unfoldable pub next : {P : Type 0} → Machine → Tables P → Event P → Tables P
next m t e = take_back t (happens m t e).tables

-- the mesh after a list of calls
unfoldable pub run : {P : Type 0} → Machine → Tables P → List (Event P) → Tables P
run m t [] = t
run m t (e ∷ es) = run m (next m t e) es

-- a new mesh: the needed part of tables straight after an opening, whatever their places held
unfoldable pub new : {P : Type 0} → Machine → Tables P → Tables P
new m t = let o = opened m t in record {
  cycle = o.cycle;
  queues = take (queues m) o.queues;
  places = take (queues m * depth m) o.places;
  payloads = take (queues m * depth m) o.payloads;
  words = take (queues m) o.words;
}

-- a call as it is compared: by its arguments and the lengths of its tables, not by what lies behind them or what delivery tables held
pub data Asked (P : Type 0) : Type 0 where
  inject : Lengths → ℕ → ℕ → ℕ → P → Asked P
  room : Lengths → ℕ → ℕ → Asked P
  step : Lengths → Asked P

unfoldable pub lent_length : {X : Type 0} → ℕ → Loan X → ℕ
lent_length n (whole behind) = n + length behind
lent_length n (front k) = min k n

unfoldable pub lent_lengths : {P : Type 0} → Machine → Event P → ℕ → ℕ → Lengths
lent_lengths m e deliveries delivered = record {
  queues = lent_length (queues m) e.queues;
  places = lent_length (queues m * depth m) e.places;
  payloads = lent_length (queues m * depth m) e.payloads;
  words = lent_length (queues m) e.words;
  deliveries = deliveries;
  delivered = delivered;
}

unfoldable pub asked_by : {P : Type 0} → Machine → Event P → Call P → Asked P
asked_by m e (calls.inject router domain destination payload) = inject (lent_lengths m e 0 0) router domain destination payload
asked_by m e (calls.room router domain) = room (lent_lengths m e 0 0) router domain
asked_by m e (calls.step deliveries delivered) = step (lent_lengths m e (length deliveries) (length delivered))

unfoldable pub asked : {P : Type 0} → Machine → Event P → Asked P
asked m e = asked_by m e e.call

-- a domain's calls are those that name it, and every step
unfoldable pub concerns : {P : Type 0} → ℕ → Asked P → Bool
concerns domain (inject l router named destination payload) = named == domain
concerns domain (room l router named) = named == domain
concerns domain (step l) = true

unfoldable pub calls_of : {P : Type 0} → Machine → ℕ → List (Event P) → List (Asked P)
calls_of m domain es = filter (concerns domain) (map (asked m) es)

-- the records with mark 1 and the domain's number, from a router on, with the payloads beside them
unfoldable pub marked : {P : Type 0} → ℕ → ℕ → ℕ → List Delivery → List P → List (Arrival P)
marked cycle domain router [] ps = []
marked cycle domain router (x ∷ xs) [] = []
marked cycle domain router (x ∷ xs) (p ∷ ps) =
    cond (x.mark == 1 && x.domain == domain)
    (record { cycle = cycle; router = router; source = x.source; payload = p } ∷ []) []
    ++ marked cycle domain (router + 1) xs ps

-- a domain's deliveries of a call: those of an accepted step
unfoldable pub deliveries : {P : Type 0} → Machine → ℕ → ℕ → Outcome P → List (Arrival P)
deliveries m cycle domain o =
    if_accepted o.answer (marked cycle domain 0 (take (routers m) o.deliveries) (take (routers m) o.delivered)) []

-- what a domain has of one call: the call, its answer, the domain's deliveries, and its part of the mesh afterwards
pub record Note (P : Type 0) : Type 0 where
  pub call : Asked P
  pub answer : Answer
  pub deliveries : List (Arrival P)
  pub left : View P

unfoldable pub note : {P : Type 0} → Machine → ℕ → Tables P → Event P → Note P
note m domain t e = record {
  call = asked m e;
  answer = (happens m t e).answer;
  deliveries = deliveries m t.cycle domain (happens m t e);
  left = view m (next m t e) domain;
}

-- what a domain has of a run, in order
unfoldable pub notes : {P : Type 0} → Machine → ℕ → Tables P → List (Event P) → List (Note P)
notes m domain t [] = []
notes m domain t (e ∷ es) =
    cond (concerns domain (asked m e)) (note m domain t e ∷ notes m domain (next m t e) es) (notes m domain (next m t e) es)
