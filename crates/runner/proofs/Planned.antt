-- What a plan call's answer tells of the running mesh, and what an answer for want of a value tells of the value.
use Rattle.std.proofs.Common.{◌≡◌, ℕ, List, ◌++◌, Some, None, Ok, Err, Option, sym, refl, ap, ◌∙◌, arith}
use Rattle.std.specs.Option.{ok_or}
use Rattle.std.proofs.lemmas.List.{append-nil}
use Rattle.schedule.specs.declared.refusal.Refusal.{Refusal}
use Rattle.schedule.specs.Plans.{outcome, replaced_by}
use Rattle.schedule.specs.Timetable.{Timetable}
use Rattle.frames.specs.Frames.{PlanValue}
use Rattle.runner.specs.Printed.{built_timetable, planned_by, reopened}
use Rattle.runner.specs.Running.{Running}
use Rattle.runner.specs.Steps.{behind, left, refusal_line}

-- the mesh with a plan's choices and another timetable
abbrev pub with_plan : PlanValue → Running → Timetable → Running
with_plan p s held = record {
  timetable = held;
  arbiter = p.arbiter;
  route = p.route;
  payload = p.payload;
  cycle = s.cycle;
  queues = s.queues;
  places = s.places;
  words = s.words;
  word_payloads = s.word_payloads;
  record_payloads = s.record_payloads;
}

abbrev pub with_timetable : Running → Timetable → Running
with_timetable s held = record {
  timetable = held;
  arbiter = s.arbiter;
  route = s.route;
  payload = s.payload;
  cycle = s.cycle;
  queues = s.queues;
  places = s.places;
  words = s.words;
  word_payloads = s.word_payloads;
  record_payloads = s.record_payloads;
}

module _ (p : PlanValue) (s : Running) (after : Timetable) (out : List ℕ) where
  pub plan_taken : (v : Option Refusal) (mesh : Running) → outcome (Ok tt) after ≡ replaced_by v (built_timetable p) s.timetable
      → mesh ≡ reopened (with_plan p s after) → left mesh out ≡ behind out (planned_by v p s)
  plan_taken None mesh e f =
      let g : mesh ≡ reopened (with_plan p s (built_timetable p)) = f ∙ ap (λ o. reopened (with_plan p s o.held)) e in
      λ i. left (g i) (sym (append-nil out) i)
  plan_taken (Some why) mesh e f = absurd (let h = ap (λ o. o.answer) e in let z : ◌≡◌ {A = ℕ} 0 1 = cc in omega arith)

  pub plan_refused : (v : Option Refusal) (why : Refusal) (out' : List ℕ) → outcome (Err why) after ≡ replaced_by v (built_timetable p) s.timetable
      → out' ≡ out ++ refusal_line why → left (with_timetable s after) out' ≡ behind out (planned_by v p s)
  plan_refused None why out' e w = absurd (let h = ap (λ o. o.answer) e in let z : ◌≡◌ {A = ℕ} 0 1 = cc in omega arith)
  plan_refused (Some other) why out' e w =
      let h = ap (λ o. o.answer) e in
      let same : why ≡ other = cc in
      let line : out' ≡ out ++ refusal_line other = w ∙ ap (λ (x : Refusal). out ++ refusal_line x) same in
      λ i. left (with_timetable s (e i).held) (line i)

pub not_there : {X : Type 0} (o : Option X) (why other : Refusal) → Err other ≡ ok_or o why → (o ≡ None) × (other ≡ why)
not_there None why other e = (refl, cc)
not_there (Some y) why other e = absurd (let z : ◌≡◌ {A = ℕ} 0 1 = cc in omega arith)
