use Rattle.std.proofs.Common.{◌+◌, ◌*◌, ◌%◌, ◌^◌, eqb, get_or, sym, ap, ◌∙◌, arith}
use Rattle.mesh.specs.Asked.{no_port}
use Rattle.mesh.specs.Heads.{asker}
use Rattle.mesh.specs.Shared.{outset_of}
use Rattle.mesh.proofs.Index.{port_in, queue_in}
use Rattle.mesh.proofs.Sides.{asks_wanted, bit_is, mark_more, mark_none, mark_same, mark_small, wants}
use Rattle.mesh.proofs.outset.Outset.ask_in.Goals as goal
use Rattle.mesh.proofs.outset.Outset.ask_in.Goals.{in-Some, in_default}

pub loop-side-init : goal.loop-side-init
loop-side-init g c = λ p h. mark_none (get_or c.args.ports.now p no_port) c.args.domain (asker (outset_of g.R.RouteRule.meaning c.args.self.now) c.args.router p c.args.domain) (c.requires.empty p h)

pub wanted-requires : goal.wanted-requires
wanted-requires g c =
    let plan = c.args.self.now.plan.now in
    queue_in plan _ c.args.domain (port_in plan c.args.router c.loop-side.side c.requires.router_in c.loop-side-test.true)
    c.requires.domain_in

pub mark-requires-clause-low : goal.mark-requires-clause-low
mark-requires-clause-low g c = let b = bit_is c.loop-side.side c.loop-side-test.true in omega arith

pub mark-requires-clause-small : goal.mark-requires-clause-small
mark-requires-clause-small g c = λ p h.
    let x = get_or c.args.ports.now p no_port in
    rw (c.loop-side.invariant p h)
    (mark_small (eqb x.owner c.args.domain) (asker (outset_of g.R.RouteRule.meaning c.args.self.now) c.args.router p c.args.domain)
    c.loop-side.side x.sides (omega arith) (c.requires.small p h))

pub loop-side-preserved : goal.loop-side-preserved
loop-side-preserved g c =
    let v = outset_of g.R.RouteRule.meaning c.args.self.now in
    let i = c.loop-side.side in
    let d = c.args.domain in
    let q = (c.args.router * 5 + i) * c.args.self.now.plan.now.sizes.domains + d in
    let b = bit_is i c.loop-side-test.true in
    λ p h.
    let x = get_or c.args.ports.now p no_port in
    let f = asker v c.args.router p d in
    elim c.match-wanted.branch [
      | in-Some w ↦
          rw w.ports-is
          (mark_more x (get_or c.loop-side.ports p no_port) _ d i (1 * 2 ^ i % 256) _ f (c.loop-side.invariant p h)
          (asks_wanted v c.args.router q p ∙ ap (λ o. wants o p) (sym w.in-Some.ensures)) b.0 (w.mark.ensures p h))
      | in_default w ↦
          rw w.ports-is
          (mark_same x (get_or c.loop-side.ports p no_port) d i f (c.loop-side.invariant p h)
          (asks_wanted v c.args.router q p ∙ ap (λ o. wants o p) (sym w.in_default.ensures)))
    ]
