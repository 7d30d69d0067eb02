use Rattle.std.proofs.Common.{arith}
use Rattle.mesh.proofs.Index.{place_count_le}
use Rattle.mesh.proofs.Counts.{queues_counted}
use Rattle.mesh.proofs.needed.places_needed.Goals as goal

pub overflow_mul-result : goal.overflow_mul-result
overflow_mul-result c =
    let n = queues_counted c.args.plan.now c.queues_needed.result c.queues_needed.ensures in
    let few = place_count_le c.args.plan.now in
    rw n (omega arith)
