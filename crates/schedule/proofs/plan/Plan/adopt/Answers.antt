use Rattle.std.proofs.Common.{length, take, Ok, Err, sym, refl, ap, ◌∙◌, subst}
use Rattle.std.proofs.lemmas.Result.{err_from_is_err_and}
use Rattle.schedule.specs.Timetable.{timetable, padded, ports, SlotsNameDomains, DomainsHaveSlots, OffsetsBelow, WaveRule}
use Rattle.schedule.specs.Verdict.{verdict}
use Rattle.schedule.proofs.Kept.{accepted_keeps}
use Rattle.schedule.proofs.Outcomes.{passed, decides_keeps}
use Rattle.schedule.proofs.Padded.{take_padded}
use Rattle.schedule.proofs.plan.Plan.adopt.Goals as goal

pub returns-in_err-check-clause-accepted : goal.returns-in_err-check-clause-accepted
returns-in_err-check-clause-accepted c =
    let t = timetable c.args.sizes c.args.slots.now c.args.offsets.now in
    let p = err_from_is_err_and c.from_residual.result c.from_residual.ensures.1 in
    rw p.1 (decides_keeps t (Err c.in_err-check.field-0.0) c.in_err-check.ensures.is)

pub invariant_of-self : goal.invariant_of-self
invariant_of-self c =
    let sizes = c.args.sizes in
    let period = length c.args.slots.now in
    let t = timetable sizes c.args.slots.now c.args.offsets.now in
    let keeps = accepted_keeps t (passed (verdict t) c.in_ok-check.ensures.is) in
    let limits = keeps.assigned.limits in
    let slots = sym (ap (take period) c.stored.ensures ∙ take_padded 64 c.args.slots.now period refl) in
    let offsets = sym (ap (take (ports sizes)) c.stored-2.ensures
    ∙ take_padded 320 c.args.offsets.now (ports sizes) (sym keeps.counted)) in
    record {
      width = limits.width;
      height = limits.height;
      domains = limits.domains;
      depth = limits.depth;
      hop = limits.hop;
      slotted = limits.period_limit;
      named = subst (SlotsNameDomains sizes.domains) slots keeps.assigned.named;
      shared = subst (DomainsHaveSlots sizes.domains) slots keeps.assigned.shared;
      below = subst (OffsetsBelow period) offsets keeps.below;
      wave = subst (WaveRule sizes period) offsets keeps.wave;
      slots_clear = c.stored.ensures ∙ ap (padded 64) slots;
      offsets_clear = c.stored-2.ensures ∙ ap (padded 320) offsets;
    }

pub returns-clause-accepted : goal.returns-clause-accepted
returns-clause-accepted c =
    decides_keeps (timetable c.args.sizes c.args.slots.now c.args.offsets.now) (Ok tt) c.in_ok-check.ensures.is
