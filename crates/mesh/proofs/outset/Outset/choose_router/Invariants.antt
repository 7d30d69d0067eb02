use Rattle.std.proofs.Common.{◌≡◌, ◌+◌, ◌*◌, replicate, None}
use Rattle.machine.specs.Moves.{edit}
use Rattle.mesh.specs.Shared.{outset_of}
use Rattle.mesh.specs.Ports.{chosen}
use Rattle.mesh.proofs.outset.Outset.choose_router.Given as goal

abbrev pub invariant-loop-p : goal.invariant-loop-p
invariant-loop-p g l = l.moves
    ≡ edit 0 (l.router * 5 + l.p)
    (chosen (outset_of g.R.RouteRule.meaning l.self) (g.A.Arbiter.meaning l.self.arbiter.now) l.self.words.now)
    (replicate 320 None)
