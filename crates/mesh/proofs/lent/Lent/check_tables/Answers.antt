use Rattle.std.proofs.Common.{sym, ap, ◌∙◌}
use Rattle.schedule.specs.declared.refusal.Refusal.TheVariants.{TableTooShort, UnsoundTable}
use Rattle.schedule.specs.Verdict.{answered}
use Rattle.machine.specs.Calls.{check, lengths}
use Rattle.mesh.specs.Shared.{tables_of}
use Rattle.mesh.proofs.Fitting.{long, some_choice, some_route}
use Rattle.mesh.proofs.Refused.{passed, check_stops, check_passes, handed_on, alone}
use Rattle.mesh.proofs.Soundness.{sound_same}
use Rattle.mesh.proofs.lent.Lent.check_tables.Goals as goal

pub returns-in_err-check : goal.returns-in_err-check
unfolding lengths
returns-in_err-check g c = λ choose route.
    handed_on c.from_residual.result c.in_err-check.field-0.0 c.from_residual.ensures.1
    ∙ sym (ap answered (check_stops _ _ (c.tables_long_enough-long.ensures choose route) TableTooShort _ _ c.in_err-check.ensures))

pub sound-requires : goal.sound-requires
sound-requires g c =
    let l = long c.args.self.now.plan.now some_choice some_route _
    (sym (c.tables_long_enough-long.ensures some_choice some_route) ∙ passed _ _ c.in_ok-check.ensures) in
    record { queues_in = l.queues_in; long = l.places_in }

pub returns : goal.returns
unfolding lengths
returns g c = λ choose route.
    let t = tables_of c.args.self.now in
    let l = long c.args.self.now.plan.now some_choice some_route _
    (sym (c.tables_long_enough-long.ensures some_choice some_route) ∙ passed _ _ c.in_ok-check.ensures) in
    let same = c.sound.ensures ∙ sym (sound_same c.args.self.now.plan.now choose route t l.payloads_in) in
    c.check-2.ensures
    ∙ ap (λ b. answered (check b UnsoundTable)) same
    ∙ alone _
    ∙ sym (ap answered (check_passes _ _ (c.tables_long_enough-long.ensures choose route) TableTooShort _ c.in_ok-check.ensures))
