use Rattle.std.proofs.Common.{◌≡◌, ◌*◌, replicate, sym, ap, ◌∙◌, arith, None}
use Rattle.mesh.specs.Heads.{routers}
use Rattle.mesh.specs.Shared.{outset_of}
use Rattle.machine.specs.Moves.{edit}
use Rattle.mesh.specs.Ports.{chosen, moves}
use Rattle.mesh.proofs.Edited.{edit_none}
use Rattle.mesh.proofs.outset.Outset.choose_all.Goals as goal

pub loop-router-init : goal.loop-router-init
loop-router-init g c = c.requires ∙ sym (edit_none _ _)

pub returns : goal.returns
unfolding moves
returns g c =
    let s = c.args.self.now in
    let f = chosen (outset_of g.R.RouteRule.meaning s) (g.A.Arbiter.meaning s.arbiter.now) s.words.now in
    let e : c.loop-router.router ≡ routers s.plan.now = omega (arith, c.routers-router-end.ensures.is) in
    c.loop-router.invariant ∙ ap (λ n. edit 0 (n * 5) f (replicate 320 None)) e
