-- Links between ports: the port across from the port across from k is k.
use Rattle.std.proofs.Common.{◌≡◌, ℕ, zero, suc, ◌+◌, ◌*◌, ◌/◌, ◌%◌, ◌<◌, ◌≤◌, Bool, true, false, cond, ltb, List, get_or, IfSome, Some, None, Option, sym, refl, ap, ◌∙◌, arith}
use lib.Arith.{digits_div, digits_mod}
use Rattle.std.specs.Option.{option_to_list}
use Rattle.schedule.specs.declared.plan.Plan.{Plan}
use Rattle.schedule.specs.Mesh.{neighbour_of}
use Rattle.machine.specs.Machine.{Machine, machine, beyond, opposite, routers, width}
use Rattle.machine.proofs.Links.{beyond_back, some_of_list}
use Rattle.machine.specs.declared.tables.Queue.{Queue}
use Rattle.mesh.specs.Heads.{no_queue, ports}
use Rattle.mesh.specs.Heads as heads
use Rattle.mesh.specs.Ports.{across, across_to, has_room}
use Rattle.mesh.proofs.Index.{router_in}
use Rattle.std.proofs.lemmas.Bool.{lt-ltb}
use Rattle.schedule.specs.Plans.{beside}

-- a machine of the plan: its links are the plan's, whatever its rules are
linked : Plan → Machine
linked plan = machine plan (λ word _. (0, word)) (λ _ _. 0)

-- the router beyond a side is in the mesh, and has this one beyond its opposite side
pub neighbour_back : (plan : Plan) (r i n : ℕ) → r < heads.routers plan
    → neighbour_of plan.sizes.width plan.sizes.height r i ≡ Some n
    → (n < heads.routers plan) × (neighbour_of plan.sizes.width plan.sizes.height n (opposite i) ≡ Some r)
    × (opposite (opposite i) ≡ i) × (opposite i < 4)
unfolding linked beyond routers width
neighbour_back plan r i n h e =
    let b = beyond_back (linked plan) r i n h (ap option_to_list e) in
    (b.0, some_of_list _ r b.1, b.2, b.3)

pub some_of : (b : Bool) (a n : ℕ) → cond b (Some a) None ≡ Some n → (b ≡ true) × (a ≡ n)
some_of true a n e = (refl, cc)
some_of false a n e = absurd (let z : ◌≡◌ {A = ℕ} 0 1 = cc in omega arith)

across_some : (p : ℕ) (o : Option ℕ) (j : ℕ) → across_to p o ≡ Some j → (n : ℕ) × (o ≡ Some n) × (n * 5 + opposite p ≡ j)
across_some p None j e = absurd (let z : ◌≡◌ {A = ℕ} 0 1 = cc in omega arith)
across_some p (Some n) j e = (n, refl, cc)

pub across_back : (plan : Plan) (k j : ℕ) → k < ports plan → across plan k ≡ Some j → across plan j ≡ Some k
unfolding across
across_back plan k j h e =
    let s = across_some (k % 5) (neighbour_of plan.sizes.width plan.sizes.height (k / 5) (k % 5)) j e in
    let n = s.0 in
    let b = neighbour_back plan (k / 5) (k % 5) n (router_in plan k h) s.1 in
    let low : opposite (k % 5) < 5 = omega (arith, b.3) in
    let q : j / 5 ≡ n = ap (λ m. m / 5) (sym s.2) ∙ digits_div n low in
    let m : j % 5 ≡ opposite (k % 5) = ap (λ m. m % 5) (sym s.2) ∙ digits_mod n low in
    rw (q, m, b.1) (ap Some (rw b.2 (omega arith)))

-- nothing lies across a local port
pub across_local : (plan : Plan) (k : ℕ) → k % 5 ≡ 4 → across plan k ≡ None
unfolding across
across_local plan k e = rw e refl

pub opposite_high : (side : ℕ) → 4 ≤ side → opposite side ≡ 4
unfolding opposite
opposite_high zero h = absurd (omega arith)
opposite_high (suc zero) h = absurd (omega arith)
opposite_high (suc (suc zero)) h = absurd (omega arith)
opposite_high (suc (suc (suc zero))) h = absurd (omega arith)
opposite_high (suc (suc (suc (suc side)))) h = refl

-- the router that a plan names beyond port k
pub beside_some : (plan : Plan) (k n : ℕ) → k < ports plan → Some n ≡ beside plan (k / 5) (k % 5)
    → (Some n ≡ neighbour_of plan.sizes.width plan.sizes.height (k / 5) (k % 5)) × (n < heads.routers plan) × (opposite (k % 5) < 4)
beside_some plan k n h e =
    let r = router_in plan k h in
    let inside = lt-ltb _ _ r in
    let f : Some n ≡ neighbour_of plan.sizes.width plan.sizes.height (k / 5) (k % 5) = rw inside at e in
    let b = neighbour_back plan (k / 5) (k % 5) n r (sym f) in
    (f, b.0, b.3)

-- what lies across is in the mesh
pub across_inside : (plan : Plan) (k : ℕ) → k < ports plan → (o : Option ℕ) → o ≡ across plan k → IfSome o (λ j. j < ports plan)
unfolding across
across_inside plan k h None e = tt
across_inside plan k h (Some j) e =
    let s = across_some (k % 5) (neighbour_of plan.sizes.width plan.sizes.height (k / 5) (k % 5)) j (sym e) in
    let b = neighbour_back plan (k / 5) (k % 5) s.0 (router_in plan k h) s.1 in
    omega (arith, s.2, b.0, b.3)

-- what lies across, by what lies beside
pub across_by : (p : ℕ) (o r : Option ℕ) → (o ≡ None → r ≡ None) → ((n : ℕ) → o ≡ Some n → r ≡ Some (n * 5 + opposite p)) → r ≡ across_to p o
across_by p None r none some = none refl
across_by p (Some n) r none some = some n refl

-- whether there is room, by the queue that a port feeds
pub room_by : (plan : Plan) (queues : List Queue) (d : ℕ) (o : Option ℕ) (r : Bool) → (o ≡ None → r ≡ false)
    → ((j : ℕ) → o ≡ Some j → r ≡ ltb (get_or queues (j * plan.sizes.domains + d) no_queue).count plan.sizes.depth)
    → r ≡ has_room plan queues d o
room_by plan queues d None r none some = none refl
room_by plan queues d (Some j) r none some = some j refl
