use Rattle.std.proofs.Common.{◌≡◌, ◌*◌}
use Rattle.mesh.specs.Heads.{queue_count}
use Rattle.machine.specs.Moves.{edit}
use Rattle.mesh.proofs.Scatter.{word_part, queue_part, place_part, payload_part}
use Rattle.mesh.proofs.apply.make_moves.Given as goal

abbrev pub invariant-loop-k : goal.invariant-loop-k
invariant-loop-k g l =
    (l.words ≡ edit 0 (queue_count l.plan) (word_part l.plan l.moves l.k) l.initial.words)
    × (l.queues ≡ edit 0 (queue_count l.plan) (queue_part l.plan l.moves l.k l.k) l.initial.queues)
    × (l.places ≡ edit 0 (queue_count l.plan * l.plan.sizes.depth)
    (place_part l.plan l.cycle l.initial.queues l.moves l.k) l.initial.places)
    × (l.payloads ≡ edit 0 (queue_count l.plan * l.plan.sizes.depth)
    (payload_part l.plan l.initial.queues l.moves l.initial.payloads l.k) l.initial.payloads)
