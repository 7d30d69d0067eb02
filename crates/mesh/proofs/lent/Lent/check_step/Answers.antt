use Rattle.std.proofs.Common.{sym, ap, ◌∙◌}
use Rattle.schedule.specs.declared.refusal.Refusal.TheVariants.{TableTooShort}
use Rattle.schedule.specs.Verdict.{answered}
use Rattle.machine.specs.Machine.{machine}
use Rattle.mesh.specs.Shared.{tables_of}
use Rattle.mesh.proofs.Refused.{handed_on, passed}
use Rattle.mesh.proofs.Stepping.{bad_tables, last_check, short_deliveries}
use Rattle.mesh.proofs.lent.Lent.check_step.Goals as goal

pub returns-in_err-check : goal.returns-in_err-check
returns-in_err-check g c = λ choose route.
    let a = c.args.self.now in
    let t = tables_of a in
    let why = c.in_err-check.field-0.0 in
    handed_on c.from_residual.result why c.from_residual.ensures.1
    ∙ sym (ap answered (short_deliveries (machine a.plan.now choose route) t c.args.deliveries c.args.delivered why _
    (c.deliveries_long_enough-long.ensures choose route) c.in_err-check.ensures))

pub returns-in_err-check_tables : goal.returns-in_err-check_tables
returns-in_err-check_tables g c = λ choose route.
    let a = c.args.self.now in
    let t = tables_of a in
    let why = c.in_err-check_tables.field-0.0 in
    handed_on c.from_residual-in_err-check_tables.result why c.from_residual-in_err-check_tables.ensures.1
    ∙ sym (ap answered (bad_tables (machine a.plan.now choose route) t c.args.deliveries c.args.delivered why
    (sym (c.deliveries_long_enough-long.ensures choose route) ∙ passed _ TableTooShort c.in_ok-check.ensures)
    (c.in_err-check_tables.ensures choose route)))

pub returns : goal.returns
returns g c = λ choose route.
    let a = c.args.self.now in
    let t = tables_of a in
    c.check-2.ensures ∙ last_check (machine a.plan.now choose route) t c.args.deliveries c.args.delivered
    (sym (c.deliveries_long_enough-long.ensures choose route) ∙ passed _ TableTooShort c.in_ok-check.ensures)
    (c.in_ok-check_tables.ensures choose route)
