-- The tables after a cycle, from the moves of its ports.
use Rattle.std.specs.Prelude.{ℕ, ◌+◌, ◌-◌, ◌*◌, ◌/◌, ◌%◌, Bool, cond, ◌&&◌, ◌||◌, List, Some, None, Option, ◌==◌, slice_index_or}
use Rattle.schedule.specs.declared.plan.Plan.{Plan}
use Rattle.machine.specs.declared.tables.Queue.{Queue}
use Rattle.machine.specs.declared.tables.Place.{Place}
use Rattle.machine.specs.declared.tables.Delivery.{Delivery}
use Rattle.mesh.specs.declared.moves.Move.{Move}
use Rattle.mesh.specs.Heads.{no_queue}
use Rattle.mesh.specs.Ports.{across, move_at, passes_at}

-- whether port k passes a packet of domain d
abbrev pub passing : List (Option Move) → ℕ → ℕ → Bool
passing moves k d = passes_at moves k && (move_at moves k).owner == d

-- word q
unfoldable pub word_after : Plan → List (Option Move) → ℕ → ℕ → ℕ
word_after plan moves q x =
    cond (passing moves (q / plan.sizes.domains) (q % plan.sizes.domains)) (move_at moves (q / plan.sizes.domains)).next x

-- the port that passes a packet into queue q
abbrev pub arriving_by : List (Option Move) → ℕ → Option ℕ → Option ℕ
arriving_by moves d None = None
arriving_by moves d (Some j) = cond (passing moves j d) (Some j) None

unfoldable pub arriving : Plan → List (Option Move) → ℕ → Option ℕ
arriving plan moves q = arriving_by moves (q % plan.sizes.domains) (across plan (q / plan.sizes.domains))

-- whether port k takes the first packet of side i in domain d
abbrev pub taking : List (Option Move) → ℕ → ℕ → ℕ → Bool
taking moves k i d = passing moves k d && (move_at moves k).winner == i

-- whether the first packet of queue q leaves it
unfoldable pub leaving : Plan → List (Option Move) → ℕ → Bool
leaving plan moves q =
    let r = q / plan.sizes.domains / 5 * 5 in
    let i = q / plan.sizes.domains % 5 in
    let d = q % plan.sizes.domains in
    (((taking moves r i d || taking moves (r + 1) i d) || taking moves (r + 2) i d) || taking moves (r + 3) i d) || taking moves (r + 4) i d

abbrev pub one : {X : Type 0} → Option X → ℕ
one None = 0
one (Some x) = 1

-- queue q
unfoldable pub queue_after : Plan → List (Option Move) → ℕ → Queue → Queue
queue_after plan moves q x = record {
  first = cond (leaving plan moves q) ((x.first + 1) % plan.sizes.depth) x.first;
  count = (x.count + one (arriving plan moves q)) - cond (leaving plan moves q) 1 0;
}

-- the port whose packet is put at place k: the one that passes a packet into its queue, if the place is the first free one
unfoldable pub landing : Plan → List Queue → List (Option Move) → ℕ → Option ℕ
landing plan queues moves k =
    let x = slice_index_or queues (k / plan.sizes.depth) no_queue in
    cond (k % plan.sizes.depth == (x.first + x.count) % plan.sizes.depth) (arriving plan moves (k / plan.sizes.depth)) None

-- place k
abbrev pub place_by : Plan → ℕ → List (Option Move) → Option ℕ → Place → Place
place_by plan t moves None x = x
place_by plan t moves (Some j) x =
    record { destination = (move_at moves j).destination; source = (move_at moves j).source; ready = t + plan.sizes.hop }

unfoldable pub place_after : Plan → ℕ → List Queue → List (Option Move) → ℕ → Place → Place
place_after plan t queues moves k x = place_by plan t moves (landing plan queues moves k) x

-- the payload at place k
abbrev pub payload_by : {P : Type 0} → List (Option Move) → List P → Option ℕ → P → P
payload_by moves payloads None x = x
payload_by moves payloads (Some j) x = slice_index_or payloads (move_at moves j).from x

unfoldable pub payload_after : {P : Type 0} → Plan → List Queue → List (Option Move) → List P → ℕ → P → P
payload_after plan queues moves payloads k x = payload_by moves payloads (landing plan queues moves k) x

-- the delivery record of a router, told the move of its local port, and the payload beside it
abbrev pub delivery_by : Option Move → Delivery
delivery_by None = record { mark = 0; domain = 0; source = 0 }
delivery_by (Some m) = record { mark = 1; domain = m.owner; source = m.source }

unfoldable pub delivery_after : List (Option Move) → ℕ → Delivery → Delivery
delivery_after moves r x = delivery_by (slice_index_or moves (r * 5 + 4) None)

abbrev pub delivered_by : {P : Type 0} → Option Move → List P → P → P
delivered_by None payloads x = x
delivered_by (Some m) payloads x = slice_index_or payloads m.from x

unfoldable pub delivered_after : {P : Type 0} → List (Option Move) → List P → ℕ → P → P
delivered_after moves payloads r x = delivered_by (slice_index_or moves (r * 5 + 4) None) payloads x
