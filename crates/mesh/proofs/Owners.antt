-- Every port has an owner among the plan's domains.
use Rattle.std.proofs.Common.{◌≡◌, ℕ, ◌+◌, ◌-◌, ◌<◌, Bool, true, false, length, take, Some, ap, ◌∙◌, mod-lt, arith, length-append, length-take, None}
use lib.ListN.{length-replicate}
use Rattle.schedule.specs.declared.plan.Plan.{Plan}
use Rattle.schedule.specs.Plans.{known}
use Rattle.mesh.specs.Ports.{owner}

pub owner_below : (plan : Plan) (cycle k : ℕ) → owner plan cycle k < plan.sizes.domains
unfolding owner
owner_below plan cycle k =
    let front : ℕ = length (take plan.period plan.slots) in
    let whole : length plan.slots ≡ front + (64 - front) = ap length plan.slots_clear ∙ simp (length-append, length-replicate) in
    plan.named _ (mod-lt _ (omega (arith, length-take plan.period plan.slots, plan.slotted.0)))

pub known_is : {X : Type 0} (b : Bool) (x y : X) → Some y ≡ known b x → y ≡ x
known_is true x y e = cc
known_is false x y e = absurd (let z : ◌≡◌ {A = ℕ} 0 1 = cc in omega arith)

pub known_not : {X : Type 0} (b : Bool) (x : X) → b ≡ true → None ≡ known b x → ⊥
known_not true x t e = let z : ◌≡◌ {A = ℕ} 0 1 = cc in omega arith
known_not false x t e = let z : ◌≡◌ {A = ℕ} 0 1 = cc in omega arith
