use Rattle.std.proofs.Common.{◌+◌, ◌*◌, ltb, refl, ◌∙◌, arith}
use Rattle.std.proofs.lemmas.Bool.{lt-ltb}
use Rattle.mesh.specs.Heads.{asker}
use Rattle.mesh.specs.Shared.{outset_of}
use Rattle.mesh.specs.Ports.{owner}
use Rattle.mesh.proofs.Owners.{owner_below}
use Rattle.mesh.proofs.Sides.{mark_small}
use Rattle.mesh.proofs.outset.Outset.asking.Goals as goal

pub ask_in-requires-clause-small : goal.ask_in-requires-clause-small
ask_in-requires-clause-small g c = λ p h.
    let plan = c.args.self.now.plan.now in
    let o = owner plan c.args.self.now.cycle (c.args.router * 5 + p) in
    rw (c.loop-domain.invariant p h)
    (mark_small (ltb o c.loop-domain.domain-counter) (asker (outset_of g.R.RouteRule.meaning c.args.self.now) c.args.router p o) 5 0
    (omega arith) (omega arith))

pub returns : goal.returns
returns g c = λ p h.
    let plan = c.args.self.now.plan.now in
    let o = owner plan c.args.self.now.cycle (c.args.router * 5 + p) in
    let low = owner_below plan c.args.self.now.cycle (c.args.router * 5 + p) in
    c.loop-domain.invariant p h ∙ rw (lt-ltb o c.loop-domain.domain-counter (omega arith)) refl
