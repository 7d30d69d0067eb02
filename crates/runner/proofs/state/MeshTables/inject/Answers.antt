use Rattle.std.proofs.Common.{Ok, Err, vec_items, sym}
use Rattle.std.proofs.lemmas.List.{append-nil}
use Rattle.machine.specs.Machine.{machine}
use Rattle.runner.specs.Running.{lent}
use Rattle.std.proofs.lemmas.Result.{on_ok_weaker}
use Rattle.runner.proofs.Taken.{injection}
use Rattle.runner.proofs.state.MeshTables.inject.Goals as goal

pub returns-in-Ok : goal.returns-in-Ok
returns-in-Ok g c =
    λ choose route. injection g.P.Payload.form (machine c.args.plan.now choose route) (lent c.args.self.now c.args.payloads.now) _
    c.args.injection.router c.args.injection.domain c.args.injection.destination c.args.injection.payload
    c.from_bytes.result (Ok c.in-Ok.field-0) (vec_items c.args.out.now) (vec_items c.args.out.now)
    (c.in-Ok.ensures choose route) c.from_bytes.ensures (sym (append-nil (vec_items c.args.out.now)))

pub returns-in-Err : goal.returns-in-Err
returns-in-Err g c =
    on_ok_weaker c.append_refusal.result
    (λ w choose route. injection g.P.Payload.form (machine c.args.plan.now choose route) (lent c.args.self.now c.args.payloads.now) _
    c.args.injection.router c.args.injection.domain c.args.injection.destination c.args.injection.payload
    c.from_bytes.result (Err c.in-Err.why) (vec_items c.args.out.now) (vec_items c.append_refusal.new.out)
    (c.in-Err.ensures choose route) c.from_bytes.ensures w)
    c.append_refusal.ensures
