use Rattle.std.proofs.Common.{◌<◌, arith}
use Rattle.mesh.proofs.Index.{queue_in, side_queue_in}
use Rattle.mesh.proofs.outset.Outset.choose_port.Goals as goal

pub bounds-self-k : goal.bounds-self-k
bounds-self-k g c =
    let q = queue_in c.args.self.now.plan.now c.args.k c.args.port.owner c.requires.port_in c.requires.domain_in in
    omega (arith, c.args.self.now.words_in)

pub pass-requires : goal.pass-requires
pass-requires g c =
    let some : 0 < c.args.port.sides = omega arith in
    let won : c.choose-winner.result.0 < 5 =
    rw c.choose-winner.ensures ((g.met.A.Arbiter.arbitrates _).winner_asks _ _ some c.requires.few).0 in
    side_queue_in c.args.self.now.plan.now c.args.k c.choose-winner.result.0 c.args.port.owner c.requires.port_in won c.requires.domain_in
