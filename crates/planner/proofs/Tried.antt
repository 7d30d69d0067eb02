-- A plan call's answer tells what becomes of the line that brought the timetable.
use Rattle.std.proofs.Common.{◌≡◌, ℕ, Some, None, Ok, Err, Option, refl, ap, arith}
use Rattle.std.specs.Option.{ok_or}
use Rattle.schedule.specs.declared.refusal.Refusal.{Refusal}
use Rattle.schedule.specs.Plans.{outcome, replaced_by}
use Rattle.schedule.specs.Timetable.{Timetable}
use Rattle.frames.specs.Frames.{PlanValue}
use Rattle.planner.specs.declared.judgement.Offsets.{Offsets}
use Rattle.planner.specs.Judged.{refused, left, tried_by, accepted}

module _ (p : PlanValue) (offsets : Offsets) (new held after : Timetable) where
  pub taken_up : (v : Option Refusal) → outcome (Ok tt) after ≡ replaced_by v new held
      → left (accepted p.arbiter p.route p.payload offsets) after ≡ tried_by v p offsets new held
  taken_up None e = ap (λ o. left (accepted p.arbiter p.route p.payload offsets) o.held) e
  taken_up (Some why) e = absurd (let f = ap (λ o. o.answer) e in let z : ◌≡◌ {A = ℕ} 0 1 = cc in omega arith)

  pub turned_away : (v : Option Refusal) (why : Refusal) → outcome (Err why) after ≡ replaced_by v new held
      → left (refused why) after ≡ tried_by v p offsets new held
  turned_away None why e = absurd (let f = ap (λ o. o.answer) e in let z : ◌≡◌ {A = ℕ} 0 1 = cc in omega arith)
  turned_away (Some other) why e =
      let f = ap (λ o. o.answer) e in
      let g : why ≡ other = cc in
      λ i. left (refused (g i)) (e i).held

-- what an answer for want of a value tells of the value
pub there : {X : Type 0} (o : Option X) (x : X) (why : Refusal) → Ok x ≡ ok_or o why → o ≡ Some x
there None x why e = absurd (let z : ◌≡◌ {A = ℕ} 0 1 = cc in omega arith)
there (Some y) x why e = cc

pub not_there : {X : Type 0} (o : Option X) (why other : Refusal) → Err other ≡ ok_or o why → (o ≡ None) × (other ≡ why)
not_there None why other e = (refl, cc)
not_there (Some y) why other e = absurd (let z : ◌≡◌ {A = ℕ} 0 1 = cc in omega arith)
