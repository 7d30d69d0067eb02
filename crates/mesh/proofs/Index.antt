-- Where a queue and a place lie.
use Rattle.std.proofs.Common.{◌≡◌, ℕ, zero, suc, ◌+◌, ◌*◌, ◌/◌, ◌<◌, ◌≤◌, List, [], drop, length, get_or, ap, ◌∙◌, le_of_suc-le-suc, not-suc-le-zero, mul_comm, arith}
use Rattle.std.specs.Simd.{first_chunks}
use Rattle.std.proofs.lemmas.List.{get_or-take, get_or-drop}
use Rattle.std.proofs.lemmas.Nat.{mul-add-lt, mul-le, div_below}
use Rattle.schedule.specs.declared.plan.Plan.{Plan}
use Rattle.machine.specs.declared.tables.Queue.{Queue}
use Rattle.machine.specs.declared.tables.Place.{Place}
use Rattle.mesh.specs.Heads.{Fit, no_queue, routers, ports, queue_count}

pub routers_le : (plan : Plan) → routers plan ≤ 64
routers_le plan = mul-le plan.sizes.width plan.sizes.height 8 8 plan.width.1 plan.height.1

pub ports_le : (plan : Plan) → ports plan ≤ 320
ports_le plan = let h : routers plan ≤ 64 = routers_le plan in omega arith

pub queue_count_le : (plan : Plan) → queue_count plan ≤ 2560
queue_count_le plan = mul-le (ports plan) plan.sizes.domains 320 8 (ports_le plan) plan.domains.1

-- a port's number
pub port_in : (plan : Plan) (r i : ℕ) → r < routers plan → i < 5 → r * 5 + i < ports plan
port_in plan r i h k = omega arith

-- a queue's number, of port or side k and domain d
pub queue_in : (plan : Plan) (k d : ℕ) → k < ports plan → d < plan.sizes.domains → k * plan.sizes.domains + d < queue_count plan
queue_in plan k d h j = rw (mul_comm (ports plan) plan.sizes.domains) (mul-add-lt k plan.sizes.domains d (ports plan) h j)

-- the queue of a router's own core
pub own_queue_in : (plan : Plan) (r d : ℕ) → r < routers plan → d < plan.sizes.domains → (r * 5 + 4) * plan.sizes.domains + d < queue_count plan
own_queue_in plan r d h j = queue_in plan (r * 5 + 4) d (port_in plan r 4 h (omega arith)) j

-- a place's number
pub place_in : (plan : Plan) (q j : ℕ) → q < queue_count plan → j < plan.sizes.depth
    → q * plan.sizes.depth + j < queue_count plan * plan.sizes.depth
place_in plan q j h k = rw (mul_comm (queue_count plan) plan.sizes.depth) (mul-add-lt q plan.sizes.depth j (queue_count plan) h k)

pub router_in : (plan : Plan) (k : ℕ) → k < ports plan → k / 5 < routers plan
router_in plan k h = div_below k 5 (routers plan) (omega arith) h

-- the queue of side i at the router of port k
pub side_queue_in : (plan : Plan) (k i d : ℕ) → k < ports plan → i < 5 → d < plan.sizes.domains
    → (k / 5 * 5 + i) * plan.sizes.domains + d < queue_count plan
side_queue_in plan k i d h j l = queue_in plan (k / 5 * 5 + i) d (port_in plan (k / 5) i (router_in plan k h) j) l

pub place_count_le : (plan : Plan) → queue_count plan * plan.sizes.depth ≤ 10240
place_count_le plan = mul-le (queue_count plan) plan.sizes.depth 2560 4 (queue_count_le plan) plan.depth.1

-- the port or side of queue q
pub queue_port_in : (plan : Plan) (q : ℕ) → q < queue_count plan → q / plan.sizes.domains < ports plan
queue_port_in plan q h = div_below q plan.sizes.domains (ports plan) plan.domains.0 h

-- the queue of place k
pub place_queue_in : (plan : Plan) (k : ℕ) → k < queue_count plan * plan.sizes.depth → k / plan.sizes.depth < queue_count plan
place_queue_in plan k h = div_below k plan.sizes.depth (queue_count plan) plan.depth.0 h

-- the last port of the router of queue q
pub last_port : (plan : Plan) (q : ℕ) → q < queue_count plan → q / plan.sizes.domains / 5 * 5 + 4 < 320
last_port plan q h =
    let r = router_in plan (q / plan.sizes.domains) (queue_port_in plan q h) in
    let n = routers_le plan in
    omega arith

pub port_below : (plan : Plan) (n k : ℕ) → n ≡ routers plan → k < n * 5 → k < ports plan
port_below plan n k e h = omega arith

pub place_count_pos : (plan : Plan) → 0 < queue_count plan * plan.sizes.depth
place_count_pos plan =
    let a = mul-le 1 1 plan.sizes.width plan.sizes.height plan.width.0 plan.height.0 in
    let b = mul-le 1 1 (ports plan) plan.sizes.domains (omega arith) plan.domains.0 in
    mul-le 1 1 (queue_count plan) plan.sizes.depth (omega arith) plan.depth.0

-- element i of chunk q
pub chunk_at : {X : Type 0} (b k : ℕ) (xs : List X) (q i : ℕ) (d : X) → q < k → i < b
    → get_or (get_or (first_chunks b k xs) q []) i d ≡ get_or xs (q * b + i) d
chunk_at b zero xs q i d h l = absurd (not-suc-le-zero h)
chunk_at b (suc k) xs zero i d h l = get_or-take b xs i d l ∙ ap (λ j. get_or xs j d) (omega arith)
chunk_at b (suc k) xs (suc q) i d h l =
    chunk_at b k (drop b xs) q i d (le_of_suc-le-suc h) l ∙ get_or-drop b xs (q * b + i) d
    ∙ ap (λ j. get_or xs j d) (omega arith)

-- the place of a queue's first packet
pub head_in : (plan : Plan) (queues : List Queue) (places : List Place) → Fit plan queues places → (q : ℕ) → q < queue_count plan
    → q * plan.sizes.depth + (get_or queues q no_queue).first < length places
head_in plan queues places fit q h =
    let j = place_in plan q (get_or queues q no_queue).first h (fit.firsts q h) in
    let n = fit.places_in in
    omega arith
