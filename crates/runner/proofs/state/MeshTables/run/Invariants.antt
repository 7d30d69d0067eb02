-- What is left and printed by the steps to come, behind what is printed already, is that of all steps.
use Rattle.std.proofs.Common.{◌≡◌, ◌-◌, vec_items}
use Rattle.frames.specs.Chosen.{arbiter_meant, route_meant}
use Rattle.machine.specs.Machine.{machine}
use Rattle.runner.specs.Running.{lent}
use Rattle.runner.specs.Steps.{behind, run_steps}
use Rattle.runner.proofs.state.MeshTables.run.Given as goal

abbrev pub invariant-loop : goal.invariant-loop
invariant-loop g l =
    let m = machine l.plan (arbiter_meant l.choices.arbiter) (route_meant l.choices.route) in
    behind (vec_items l.out) (run_steps g.P.Payload.form m (l.count - l.counter) (lent l.self l.payloads.held))
    ≡ behind (vec_items l.initial.out) (run_steps g.P.Payload.form m l.count (lent l.initial.self l.initial.payloads.held))
