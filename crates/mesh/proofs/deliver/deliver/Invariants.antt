use Rattle.std.proofs.Common.{◌≡◌}
use Rattle.machine.specs.Moves.{edit}
use Rattle.mesh.specs.After.{delivery_after, delivered_after}
use Rattle.mesh.proofs.deliver.deliver.Given as goal

abbrev pub invariant-loop-router : goal.invariant-loop-router
invariant-loop-router g l =
    (l.deliveries ≡ edit 0 l.router (delivery_after l.moves) l.initial.deliveries)
    × (l.delivered ≡ edit 0 l.router (delivered_after l.moves l.payloads) l.initial.delivered)
