-- What the answer of a plan call tells, and what the call leaves.
use Rattle.std.proofs.Common.{◌≡◌, length, is_ok, Some, None, Ok, Err, Decides, Option, Result, refl, ap, ◌∙◌}
use Rattle.schedule.specs.declared.refusal.Refusal.{Refusal}
use Rattle.schedule.specs.Plans.{outcome, replaced_by}
use Rattle.schedule.specs.Timetable.{Timetable}
use Rattle.schedule.specs.Verdict.{answered, size_check, verdict, Keeps}
use Rattle.schedule.proofs.Kept.{accepted_keeps, keeps_accepted}

-- two answers that are apart
pub err_not_ok : {why : Refusal} → ◌≡◌ {A = Result (Unit {0}) Refusal} (Err why) (Ok tt) → ⊥
err_not_ok e = cc

pub passed : (v : Option Refusal) → Ok tt ≡ answered v → v ≡ None
passed None e = refl
passed (Some why) e = absurd cc

pub failed : (v : Option Refusal) (why : Refusal) → Err why ≡ answered v → v ≡ Some why
failed None why e = absurd (err_not_ok e)
failed (Some other) why e = cc

-- an accepted call leaves the new timetable, a refused one the old
pub left_new : (new held : Timetable) (v : Option Refusal) → v ≡ None → outcome (Ok tt) new ≡ replaced_by v new held
left_new new held v e = rw e

pub left_old : (new held : Timetable) (v : Option Refusal) (why : Refusal) → v ≡ Some why → outcome (Err why) held ≡ replaced_by v new held
left_old new held v why e = rw e

-- an answer tells whether the timetable keeps what a plan keeps
pub decides_keeps : (t : Timetable) (r : Result (Unit {0}) Refusal) → r ≡ answered (verdict t) → Decides (is_ok r) (Keeps t)
decides_keeps t (Ok tt) e = ((λ _. accepted_keeps t (passed (verdict t) e)), λ _. refl)
decides_keeps t (Err why) e = (
  (λ f. absurd cc),
  λ k. absurd (let f = e ∙ ap answered (keeps_accepted t k) in cc),
)

-- a size outside its limits is refused before anything else
pub sizes_first : (t : Timetable) (why : Refusal) → size_check t.sizes (length t.slots) ≡ Some why → verdict t ≡ Some why
sizes_first t why e = rw e
