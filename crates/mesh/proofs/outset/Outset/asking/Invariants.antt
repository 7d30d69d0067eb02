use Rattle.std.proofs.Common.{◌≡◌, ℕ, ◌+◌, ◌*◌, ◌<◌, cond, ltb, get_or}
use Rattle.mesh.specs.Asked.{asked, no_port}
use Rattle.mesh.specs.Heads.{asking_set}
use Rattle.mesh.specs.Shared.{outset_of}
use Rattle.mesh.specs.Ports.{owner}
use Rattle.mesh.proofs.outset.Outset.asking.Given as goal

abbrev pub invariant-loop-domain : goal.invariant-loop-domain
invariant-loop-domain g l =
    (p : ℕ) → p < 5 →
    let o = owner l.self.plan.now l.self.cycle (l.router * 5 + p) in
    get_or l.ports p no_port
    ≡ asked o (cond (ltb o l.domain-counter) (asking_set (outset_of g.R.RouteRule.meaning l.self) l.router p o) 0)
