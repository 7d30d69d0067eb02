use Rattle.std.proofs.Common.{◌≡◌, ℕ, suc, ◌+◌, ◌-◌, [], ◌++◌, length, take, vec_items, refl, ap, ◌∙◌, arith}
use Rattle.std.proofs.lemmas.Result.{on_ok_weaker}
use Rattle.frames.specs.Chosen.{arbiter_meant, route_meant}
use Rattle.machine.specs.Machine.{machine, routers}
use Rattle.runner.specs.Running.{lent}
use Rattle.runner.specs.Told.{table_lines}
use Rattle.runner.proofs.Taken.{no_step, no_step_left, one_step}
use Rattle.runner.proofs.state.MeshTables.run.Goals as goal

pub returns-in-Err : goal.returns-in-Err
returns-in-Err g c =
    let m = machine c.args.plan.now (arbiter_meant c.args.choices.arbiter) (route_meant c.args.choices.route) in
    let k = c.args.count - (c.loop.counter + 1) in
    let more : c.args.count - c.loop.counter ≡ suc k = omega arith in
    let sixteen : length c.loop.payloads.delivered ≡ 16 = omega arith in
    on_ok_weaker c.append_refusal.result
    (λ w. no_step m (lent c.loop.self c.loop.payloads.held) _ c.loop.payloads.delivered g.P.Payload.form _ k c.in-Err.why _ _ _ _ _ _
    more refl sixteen c.in-Err.ensures w c.loop.invariant)
    c.append_refusal.ensures

pub loop-preserved : goal.loop-preserved
unfolding routers
loop-preserved g c =
    let form = g.P.Payload.form in
    let m = machine c.args.plan.now (arbiter_meant c.args.choices.arbiter) (route_meant c.args.choices.route) in
    let k = c.args.count - (c.loop.counter + 1) in
    let more : c.args.count - c.loop.counter ≡ suc k = omega arith in
    let sixteen : length c.loop.payloads.delivered ≡ 16 = omega arith in
    let last = c.step-stepped.new in
    let lines = c.in_ok-append_deliveries-in-Ok.ensures
    ∙ ap (λ (n : ℕ). vec_items c.loop.out ++ table_lines form c.in-Ok.cycle 0 (take n last.deliveries) (take n last.delivered)) c.routers.ensures.is in
    one_step m (lent c.loop.self c.loop.payloads.held) _ c.loop.payloads.delivered form _ k c.in-Ok.cycle _ _ _ _ _ _
    more refl sixteen c.in-Ok.ensures lines c.loop.invariant

pub returns : goal.returns
returns g c =
    let m = machine c.args.plan.now (arbiter_meant c.args.choices.arbiter) (route_meant c.args.choices.route) in
    let none : c.args.count - c.loop.counter ≡ 0 = omega arith in
    no_step_left m (lent c.loop.self c.loop.payloads.held) [] [] g.P.Payload.form _ _ _ none c.loop.invariant
