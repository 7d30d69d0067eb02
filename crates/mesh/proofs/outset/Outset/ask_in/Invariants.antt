use Rattle.std.proofs.Common.{◌≡◌, ℕ, ◌<◌, cond, eqb, get_or}
use Rattle.mesh.specs.Asked.{asked, no_port}
use Rattle.mesh.specs.Heads.{asker, mask}
use Rattle.mesh.specs.Shared.{outset_of}
use Rattle.mesh.proofs.outset.Outset.ask_in.Given as goal

abbrev pub invariant-loop-side : goal.invariant-loop-side
invariant-loop-side g l =
    (p : ℕ) → p < 5 →
    let x = get_or l.initial.ports p no_port in
    get_or l.ports p no_port
    ≡ asked x.owner
    (cond (eqb x.owner l.domain) (mask (asker (outset_of g.R.RouteRule.meaning l.self) l.router p l.domain) l.side) x.sides)
