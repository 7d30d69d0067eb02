-- What every caller of a mesh is promised over every run: isolation, delivery in time, order, and that nothing is lost.
use Rattle.std.specs.Prelude.{◌≡◌, ℕ, zero, suc, ◌+◌, ◌-◌, ◌*◌, ◌<◌, ◌≤◌, Bool, true, false, cond, ◌&&◌, ◌⊎◌, List, [], ◌∷◌, ◌++◌, length, Ok, Err, ◌==◌, ◌≢◌, nat_eq}
use Rattle.schedule.specs.declared.refusal.Refusal.TheVariants.{UnsoundTable}
use Rattle.schedule.specs.Search.{first}
use Rattle.schedule.specs.Turns.{gap}
use Rattle.machine.specs.Calls as calls
use Rattle.machine.specs.Calls.{Answer, opening_answer}
use Rattle.machine.specs.Machine.{Machine, beyond, domains, hop, owner, queue_number, routers, towards}
use Rattle.machine.specs.Packets.{Arrival}
use Rattle.machine.specs.Runs.{Event, Asked, inject, room, step, asked, happens, next, run, new, calls_of, Note, notes}
use Rattle.machine.specs.Tables.{Tables, at, queue_at, view}

-- tables that an opening accepts
abbrev pub Opens : {P : Type 0} → Machine → Tables P → Type 0
Opens m t = opening_answer m t ≡ Ok 0

-- Isolation: two new meshes, two lists of calls that are equal once the calls of other domains are struck out. The domain gets the same
-- answers and deliveries in the same order, and after each of its calls and each step, and at the end, has the same queues and words.
abbrev pub Isolated : Type 0 → Machine → Type 0
Isolated P m =
    (domain : ℕ) → domain < domains m → (t u : Tables P) → Opens m t → Opens m u → (es fs : List (Event P))
    → calls_of m domain es ≡ calls_of m domain fs
    → (notes m domain (new m t) es ≡ notes m domain (new m u) fs)
    × (view m (run m (new m t) es) domain ≡ view m (run m (new m u) fs) domain)

-- along a run: at some call
unfoldable pub Sometime : {P : Type 0} → Machine → (Tables P → Event P → Type 0) → Tables P → List (Event P) → Type 0
Sometime m Q t [] = ⊥
Sometime m Q t (e ∷ es) = Q t e ⊎ Sometime m Q (next m t e) es

-- each call of which Q holds comes after one of which R holds, or after what was so before
unfoldable pub OnlyAfter : {P : Type 0} → Machine → (Tables P → Event P → Type 0) → (Tables P → Event P → Type 0) → Type 0
    → Tables P → List (Event P) → Type 0
OnlyAfter m Q R so t [] = Unit {0}
OnlyAfter m Q R so t (e ∷ es) = (Q t e → so) × OnlyAfter m Q R (so ⊎ R t e) (next m t e) es

-- at some call R holds, and at each call before the first such Q holds
unfoldable pub Before : {P : Type 0} → Machine → (Tables P → Event P → Type 0) → (Tables P → Event P → Type 0)
    → Tables P → List (Event P) → Type 0
Before m Q R t [] = ⊥
Before m Q R t (e ∷ es) = R t e ⊎ (Q t e × Before m Q R (next m t e) es)

unfoldable pub is_step : {P : Type 0} → Asked P → Bool
is_step (inject l router domain destination payload) = false
is_step (room l router domain) = false
is_step (step l) = true

unfoldable pub injects : {P : Type 0} → ℕ → Asked P → Bool
injects domain (inject l router named destination payload) = named == domain
injects domain (room l router named) = false
injects domain (step l) = false

-- an accepted step that ran this cycle
pub record Ran {P : Type 0} (m : Machine) (cycle : ℕ) (t : Tables P) (e : Event P) : Type 0 where
  pub steps : is_step (asked m e) ≡ true
  pub ran : (happens m t e).answer ≡ Ok cycle

-- an accepted injection of a domain
pub record Accepts {P : Type 0} (m : Machine) (domain : ℕ) (t : Tables P) (e : Event P) : Type 0 where
  pub injects_one : injects domain (asked m e) ≡ true
  pub count : ℕ
  pub accepted : (happens m t e).answer ≡ Ok count

-- a packet as it is injected
pub record Injected (P : Type 0) : Type 0 where
  pub domain : ℕ
  pub source : ℕ
  pub destination : ℕ
  pub payload : P

-- an accepted step of this cycle whose record at the packet's destination has mark 1, its domain and its source, with its payload beside it
pub record Delivers {P : Type 0} (m : Machine) (p : Injected P) (cycle : ℕ) (t : Tables P) (e : Event P) : Type 0 where
  pub ran : Ran m cycle t e
  pub marked : at (happens m t e).deliveries p.destination ≡ record { mark = 1; domain = p.domain; source = p.source } ∷ []
  pub beside : at (happens m t e).delivered p.destination ≡ p.payload ∷ []

-- a packet's path: the sides that the route rule names from a router on, before the first 4
unfoldable pub Path : Machine → ℕ → ℕ → List ℕ → Type 0
Path m destination router [] = towards m router destination ≡ 4
Path m destination router (side ∷ sides) =
    (towards m router destination ≡ side) × (side ≢ 4)
    × ((beside : ℕ) × (beyond m router side ≡ beside ∷ []) × Path m destination beside sides)

-- straight runs: the maximal stretches of a path that leave by one side
unfoldable pub straight_runs : List ℕ → ℕ
straight_runs [] = 0
straight_runs (side ∷ []) = 1
straight_runs (side ∷ (next ∷ sides)) = cond (side == next) 0 1 + straight_runs (next ∷ sides)

-- cycle + hops × cycles for a hop + (straight runs + 1) × (longest gap − 1)
unfoldable pub bound : Machine → ℕ → ℕ → List ℕ → ℕ
bound m cycle domain path =
    cycle + length path * hop m + (straight_runs path + 1) * (gap m.timetable.slots domain - 1)

-- the first cycle from this one on in which a port belongs to a domain
unfoldable pub turn_from : Machine → ℕ → ℕ → ℕ → ℕ → ℕ
turn_from m domain router port cycle =
    cycle + first (λ j. nat_eq (owner m router port (cycle + j)) domain) (length m.timetable.slots)

unfoldable pub at_one : List ℕ → (ℕ → ℕ) → ℕ
at_one [] f = 0
at_one (router ∷ _) f = f router

-- when a packet that meets no other is home: it leaves each router at its first turn, and is ready at the next a hop later
unfoldable pub home : Machine → ℕ → ℕ → List ℕ → ℕ → ℕ
home m domain router [] cycle = turn_from m domain router 4 cycle
home m domain router (side ∷ sides) cycle =
    at_one (beyond m router side) (λ next. home m domain next sides (turn_from m domain router side cycle + hop m))

-- a sum over the numbers below n
unfoldable pub total : ℕ → (ℕ → ℕ) → ℕ
total zero f = 0
total (suc n) f = total n f + f n

-- how many packets a domain holds
unfoldable pub held : {P : Type 0} → Machine → Tables P → ℕ → ℕ
held m t domain = total (routers m) (λ router. total 5 (λ side. (queue_at t (queue_number m router side domain)).count))

-- a packet that is alone: accepted in this call where its domain holds no other, with none accepted after it until it is delivered
pub record Alone {P : Type 0} (m : Machine) (p : Injected P) (t : Tables P) (e : Event P) (later : List (Event P)) : Type 0 where
  pub injected : e.call ≡ calls.inject p.source p.domain p.destination p.payload
  pub count : ℕ
  pub accepted : (happens m t e).answer ≡ Ok count
  pub nothing_held : held m t p.domain ≡ 0
  pub none_accepted : OnlyAfter m (Accepts m p.domain) (λ u f. (cycle : ℕ) × Delivers m p cycle u f) ⊥ (next m t e) later

-- Delivery in time: a packet alone is delivered by the bound, if a step has run that cycle.
abbrev pub InTime : Type 0 → Machine → Type 0
InTime P m =
    (t : Tables P) → Opens m t → (before later : List (Event P)) (e : Event P) (p : Injected P) (path : List ℕ)
    → let now = run m (new m t) before in
    let last = bound m now.cycle p.domain path in
    Alone m p now e later → Path m p.destination p.source path → Sometime m (Ran m last) (next m now e) later
    → Sometime m (λ u f. (cycle : ℕ) × (cycle ≤ last) × Delivers m p cycle u f) (next m now e) later

-- A packet alone is first delivered exactly in its home cycle, if that cycle or a later one has run.
abbrev pub AtHome : Type 0 → Machine → Type 0
AtHome P m =
    (t : Tables P) → Opens m t → (before later : List (Event P)) (e : Event P) (p : Injected P) (path : List ℕ)
    → let now = run m (new m t) before in
    let cycle_home = home m p.domain p.source path now.cycle in
    Alone m p now e later → Path m p.destination p.source path
    → Sometime m (λ u f. (cycle : ℕ) × (cycle_home ≤ cycle) × Ran m cycle u f) (next m now e) later
    → Before m (λ u f. (cycle : ℕ) × Delivers m p cycle u f → ⊥) (Delivers m p cycle_home) (next m now e) later

-- a later start is not home earlier
abbrev pub HomeInOrder : Machine → Type 0
HomeInOrder m =
    (domain router : ℕ) (path : List ℕ) (t u : ℕ) → domain < domains m → t ≤ u → home m domain router path t ≤ home m domain router path u

abbrev pub HomeByBound : Machine → Type 0
HomeByBound m =
    (domain router destination : ℕ) (path : List ℕ) (t : ℕ) → domain < domains m → router < routers m → Path m destination router path
    → home m domain router path t ≤ bound m t domain path

-- every packet has a path
abbrev pub Paths : Machine → Type 0
Paths m = (router destination : ℕ) → router < routers m → destination < routers m → (path : List ℕ) × Path m destination router path

-- the payload that an accepted injection brings in from a source to a destination
unfoldable pub brought : {P : Type 0} → ℕ → ℕ → Asked P → Answer → List P
brought source destination (inject l router domain to payload) (Ok n) = cond (router == source && to == destination) (payload ∷ []) []
brought source destination (inject l router domain to payload) (Err why) = []
brought source destination (room l router domain) a = []
brought source destination (step l) a = []

-- the payloads among deliveries from a source to a destination
unfoldable pub came : {P : Type 0} → ℕ → ℕ → List (Arrival P) → List P
came source destination [] = []
came source destination (x ∷ xs) =
    cond (x.source == source && x.router == destination) (x.payload ∷ []) [] ++ came source destination xs

unfoldable pub payloads_in : {P : Type 0} → ℕ → ℕ → List (Note P) → List P
payloads_in source destination [] = []
payloads_in source destination (n ∷ ns) = brought source destination n.call n.answer ++ payloads_in source destination ns

unfoldable pub payloads_out : {P : Type 0} → ℕ → ℕ → List (Note P) → List P
payloads_out source destination [] = []
payloads_out source destination (n ∷ ns) = came source destination n.deliveries ++ payloads_out source destination ns

-- Order: for each domain, source and destination the payloads delivered are the first ones accepted, in that order.
abbrev pub InOrder : Type 0 → Machine → Type 0
InOrder P m =
    (domain source destination : ℕ) → domain < domains m → source < routers m → destination < routers m
    → (t : Tables P) → Opens m t → (es : List (Event P))
    → (rest : List P)
    × (payloads_in source destination (notes m domain (new m t) es) ≡ payloads_out source destination (notes m domain (new m t) es) ++ rest)

-- one for an accepted injection
unfoldable pub counted : {P : Type 0} → Asked P → Answer → ℕ
counted (inject l router domain to payload) (Ok n) = 1
counted (inject l router domain to payload) (Err why) = 0
counted (room l router domain) a = 0
counted (step l) a = 0

unfoldable pub count_in : {P : Type 0} → List (Note P) → ℕ
count_in [] = 0
count_in (n ∷ ns) = counted n.call n.answer + count_in ns

unfoldable pub count_out : {P : Type 0} → List (Note P) → ℕ
count_out [] = 0
count_out (n ∷ ns) = length n.deliveries + count_out ns

-- Nothing lost: in each domain accepted = delivered + held.
abbrev pub NothingLost : Type 0 → Machine → Type 0
NothingLost P m =
    (domain : ℕ) → domain < domains m → (t : Tables P) → Opens m t → (es : List (Event P))
    → count_in (notes m domain (new m t) es) ≡ count_out (notes m domain (new m t) es) + held m (run m (new m t) es) domain

-- Unsound tables are never met.
abbrev pub NeverUnsound : Type 0 → Machine → Type 0
NeverUnsound P m =
    (t : Tables P) → Opens m t → (es : List (Event P)) (e : Event P) → (happens m (run m (new m t) es) e).answer ≢ Err UnsoundTable

pub record Promise (P : Type 0) (m : Machine) : Type 0 where
  pub isolated : Isolated P m
  pub in_time : InTime P m
  pub at_home : AtHome P m
  pub home_in_order : HomeInOrder m
  pub home_by_bound : HomeByBound m
  pub paths : Paths m
  pub in_order : InOrder P m
  pub nothing_lost : NothingLost P m
  pub never_unsound : NeverUnsound P m
