-- The numbers of a plan's machine, told by the plan alone.
use Rattle.std.proofs.Common.{◌≡◌, ℕ}
use Rattle.schedule.specs.declared.plan.Plan.{Plan}
use Rattle.machine.specs.Machine.{queues, routers, domains}
use Rattle.mesh.specs.Heads.{queue_count}
use Rattle.mesh.specs.Needed.{WithAnyRules}
use Rattle.mesh.specs.Heads as heads

pub queues_counted : (plan : Plan) (n : ℕ) → WithAnyRules plan (λ m. n ≡ queues m) → n ≡ queue_count plan
unfolding queues routers domains
queues_counted plan n is = is (λ word _. (0, word)) (λ _ _. 0)

pub routers_counted : (plan : Plan) (n : ℕ) → WithAnyRules plan (λ m. n ≡ routers m) → n ≡ heads.routers plan
unfolding routers
routers_counted plan n is = is (λ word _. (0, word)) (λ _ _. 0)
