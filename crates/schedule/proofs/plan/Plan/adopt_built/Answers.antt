use Rattle.std.proofs.Common.{◌≡◌, length, take, is_ok, Err, Decides, sym, ap, ◌∙◌, subst, arith}
use Rattle.std.proofs.lemmas.Result.{err_from_is_err_and}
use Rattle.schedule.specs.Built.{built}
use Rattle.schedule.specs.Plans.{timetable_of, replaced}
use Rattle.schedule.specs.Timetable.{timetable}
use Rattle.schedule.specs.Verdict.{answered, Keeps}
use Rattle.schedule.proofs.Outcomes.{sizes_first, decides_keeps}
use Rattle.schedule.proofs.Padded.{take_padded}
use Rattle.schedule.proofs.Waves.{built_length, built_offsets_keep, decides_assigned}
use Rattle.schedule.proofs.plan.Plan.adopt_built.Goals as goal

pub returns-in_err-allowed-clause-accepted : goal.returns-in_err-allowed-clause-accepted
returns-in_err-allowed-clause-accepted c =
    let sizes = c.args.sizes in
    let slots = c.args.slots.now in
    let t = timetable sizes slots (built sizes (length slots)) in
    let why = c.in_err-allowed.field-0.0 in
    let p = err_from_is_err_and c.from_residual.result c.from_residual.ensures.1 in
    let refused = sizes_first t why c.in_err-allowed.ensures.refused in
    rw p.1 (decides_assigned sizes slots _ (decides_keeps t (Err why) (ap answered (sym refused))))

pub returns-in_err-allowed-clause-built_keep : goal.returns-in_err-allowed-clause-built_keep
returns-in_err-allowed-clause-built_keep c = built_offsets_keep c.args.sizes (length c.args.slots.now)

-- the front of the array that is passed on is the list of built offsets
passed_on : (c : goal.After-adopt) → take c.ports.result c.built_offsets-offsets.result ≡ built c.args.sizes (length c.args.slots.now)
passed_on c =
    let allowed = c.in_ok-allowed.allowed in
    ap (take c.ports.result) c.built_offsets-offsets.ensures
    ∙ (take_padded 320 (built allowed.sizes allowed.period) c.ports.result
    (omega (arith, built_length allowed.sizes allowed.period, c.ports.ensures.is))
    ∙ λ i. built (c.in_ok-allowed.ensures.passed.1 i) (c.in_ok-allowed.ensures.passed.2 i))

pub returns-clause-left : goal.returns-clause-left
returns-clause-left c =
    c.adopt.ensures.left ∙ ap (λ o. replaced (timetable c.args.sizes c.args.slots.now o) (timetable_of c.args.self.now)) (passed_on c)

pub returns-clause-accepted : goal.returns-clause-accepted
returns-clause-accepted c =
    let sizes = c.args.sizes in
    let slots = c.args.slots.now in
    decides_assigned sizes slots (is_ok c.adopt.result)
    (subst (λ o. Decides (is_ok c.adopt.result) (Keeps (timetable sizes slots o))) (passed_on c) c.adopt.ensures.accepted)

pub returns-clause-built_keep : goal.returns-clause-built_keep
returns-clause-built_keep c = built_offsets_keep c.args.sizes (length c.args.slots.now)
