use Rattle.std.proofs.Common.{ap}
use Rattle.std.proofs.lemmas.Result.{err_from_is_err_and}
use Rattle.schedule.specs.declared.refusal.Refusal.TheVariants.{NotAFrame}
use Rattle.schedule.specs.Plans.{timetable_of}
use Rattle.schedule.specs.Timetable.{timetable}
use Rattle.schedule.specs.Verdict.{verdict}
use Rattle.frames.specs.Frames.{given_of, given_value}
use Rattle.planner.specs.declared.judgement.Offsets.TheVariants.{Given}
use Rattle.planner.specs.Judged.{left, refused}
use Rattle.planner.proofs.Tried.{turned_away, there, not_there}
use Rattle.planner.proofs.judgement.judge_given.Goals as goal

pub returns-in_err-given : goal.returns-in_err-given
returns-in_err-given c =
    let p = err_from_is_err_and c.from_residual.result c.from_residual.ensures.1 in
    let none = not_there (given_of c.args.bytes.now) NotAFrame c.in_err-given.field-0.0 c.in_err-given.ensures.plan in
    rw (none.0, p.1, p.2) (ap (λ why. left (refused why) (timetable_of c.args.plan.now)) none.1)

pub returns-in_err-adopt : goal.returns-in_err-adopt
returns-in_err-adopt c =
    let given = c.in_ok-given.given in
    let p = err_from_is_err_and c.from_residual-in_err-adopt.result c.from_residual-in_err-adopt.ensures.1 in
    let new = timetable given.sizes given.slots.now given.offsets.now in
    let found = there (given_of c.args.bytes.now) (given_value given) NotAFrame c.in_ok-given.ensures.plan in
    rw (found, p.1, p.2) (turned_away (given_value given).plan Given new (timetable_of c.args.plan.now) (timetable_of c.adopt.new.self) (verdict new)
    c.in_err-adopt.field-0.0 c.in_err-adopt.ensures.left)
