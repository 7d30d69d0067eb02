use Rattle.mesh.proofs.Index.{own_queue_in}
use Rattle.mesh.proofs.room.own_queue.Goals as goal

pub returns-clause-inside : goal.returns-clause-inside
returns-clause-inside c = own_queue_in c.args.plan.now _ _ c.requires.router c.requires.domain
