use Rattle.std.proofs.Common.{◌+◌, ◌%◌, get_or, arith}
use Rattle.std.proofs.lemmas.Nat.{mod_below}
use Rattle.mesh.specs.Heads.{no_queue}
use Rattle.mesh.proofs.Index.{place_in}
use Rattle.mesh.proofs.apply.end_place.Goals as goal

pub returns-clause-inside : goal.returns-clause-inside
returns-clause-inside c =
    let x = get_or c.args.queues.now c.args.q no_queue in
    let w = c.wrapped.ensures in
    rw w (place_in c.args.plan.now c.args.q ((x.first + x.count) % c.args.plan.now.sizes.depth) c.requires.inside
    (mod_below _ c.args.plan.now.sizes.depth (omega arith)))
