-- What a call's answer tells of the tables that it leaves, and an answer for want of a value of the value.
use Rattle.std.proofs.Common.{◌≡◌, ℕ, suc, ◌≤◌, Bool, true, false, leb, List, [], ◌∷◌, ◌++◌, length, take, Some, None, Ok, Err, Option, sym, refl, ap, ◌∙◌, append_assoc}
use Rattle.std.proofs.lemmas.Bool.{and_parts, leb-true}
use Rattle.std.specs.Option.{ok_or}
use Rattle.std.proofs.lemmas.List.{append-nil}
use Rattle.schedule.specs.declared.refusal.Refusal.{Refusal}
use Rattle.schedule.specs.Verdict.{earliest}
use Rattle.machine.specs.declared.tables.Delivery.{Delivery}
use Rattle.machine.specs.Calls.{Answer, Outcome, accepted, answer, answer_to, check, if_accepted, inject, lengths, long_enough, outcome, outcome_of, step, step_long_enough, step_refusal, unchanged}
use Rattle.machine.specs.Machine.{Machine, owner, routers}
use Rattle.machine.specs.Moves.{handed_over}
use Rattle.machine.specs.Tables.{Tables, sound}
use Rattle.frames.specs.Payloads.{Form}
use Rattle.runner.specs.Steps.{Left, after_step, behind, delivery_lines, injected, left, refusal_line, refusal_lines, router_line, run_steps, step_answer, stepped}
use Rattle.runner.specs.Told.{table_lines}
use Rattle.runner.proofs.Lines.{told_lines}

module _ {P : Type 0} where
  pub injection : (form : Form P) (m : Machine) (t after : Tables P) (router domain destination : ℕ) (bytes : List ℕ) (value : P) (a : Answer)
      (out out' : List ℕ) → outcome_of a after [] [] ≡ outcome m t (inject router domain destination value) → value ≡ form.value bytes
      → out' ≡ out ++ refusal_lines a → left after out' ≡ behind out (injected form m t router domain destination bytes)
  unfolding injected
  injection form m t after router domain destination bytes value a out out' e v w =
      let f : outcome_of a after [] [] ≡ outcome m t (inject router domain destination (form.value bytes)) =
      e ∙ ap (λ (x : P). outcome m t (inject router domain destination x)) v in
      let g : out' ≡ out ++ refusal_lines (outcome m t (inject router domain destination (form.value bytes))).answer =
      w ∙ ap (λ (o : Outcome P). out ++ refusal_lines o.answer) f in
      λ i. left (f i).tables (g i)

pub there : {X : Type 0} (o : Option X) (x : X) (why : Refusal) → Ok x ≡ ok_or o why → o ≡ Some x
there None x why e = absurd (cc)
there (Some y) x why e = cc

answered_ok : (o : Option Refusal) (cycle n : ℕ) → answer o cycle ≡ Ok n → (o ≡ None) × (n ≡ cycle)
unfolding answer
answered_ok None cycle n e = (refl, cc)
answered_ok (Some why) cycle n e = absurd (cc)

first_passed : (b : Bool) (why : Refusal) (rest : List (Option Refusal)) → earliest (check b why ∷ rest) ≡ None → b ≡ true
unfolding check
first_passed true why rest e = refl
first_passed false why rest e = absurd (cc)

module _ {P : Type 0} (m : Machine) (t : Tables P) (ds : List Delivery) (ps : List P) where
  taken_by : (a : Answer) (n : ℕ) (o : Outcome P) → answer_to m t (step ds ps) ≡ a → o.answer ≡ Ok n
      → o ≡ if_accepted a (accepted m t (step ds ps)) (unchanged a t (step ds ps)) → (answer_to m t (step ds ps) ≡ Ok n) × (o ≡ accepted m t (step ds ps))
  unfolding if_accepted accepted unchanged
  taken_by (Ok k) n o h r e = (sym (ap (λ (x : Outcome P). x.answer) e) ∙ r, e)
  taken_by (Err why) n o h r e =
      absurd (let f : o.answer ≡ Err why = ap (λ (x : Outcome P). x.answer) e in cc)

  refused_by : (a : Answer) (why : Refusal) (o : Outcome P) → answer_to m t (step ds ps) ≡ a → o.answer ≡ Err why
      → o ≡ if_accepted a (accepted m t (step ds ps)) (unchanged a t (step ds ps)) → (answer_to m t (step ds ps) ≡ Err why) × (o.tables ≡ t)
  unfolding if_accepted accepted unchanged
  refused_by (Ok k) why o h r e =
      absurd (let f : o.answer ≡ Ok k = ap (λ (x : Outcome P). x.answer) e ∙ h in cc)
  refused_by (Err other) why o h r e = (h ∙ sym (ap (λ (x : Outcome P). x.answer) e) ∙ r, ap (λ (x : Outcome P). x.tables) e)

  pub step_taken : (n : ℕ) (o : Outcome P) → o.answer ≡ Ok n → o ≡ outcome m t (step ds ps)
      → (answer_to m t (step ds ps) ≡ Ok n) × (o ≡ accepted m t (step ds ps))
  unfolding outcome
  step_taken n o r e = taken_by (answer_to m t (step ds ps)) n o refl r e

  pub step_refused : (why : Refusal) (o : Outcome P) → o.answer ≡ Err why → o ≡ outcome m t (step ds ps)
      → (answer_to m t (step ds ps) ≡ Err why) × (o.tables ≡ t)
  unfolding outcome
  step_refused why o r e = refused_by (answer_to m t (step ds ps)) why o refl r e

  same_answer : length ds ≡ 16 → length ps ≡ 16 → answer_to m t (step ds ps) ≡ step_answer m t
  unfolding answer_to step_answer
  same_answer e f = λ i. answer (step_refusal m (sound m t) (lengths t (e i) (f i)) t.cycle) t.cycle

  pub ran_cycle : (n : ℕ) → answer_to m t (step ds ps) ≡ Ok n → n ≡ t.cycle
  unfolding answer_to
  ran_cycle n e = (answered_ok (step_refusal m (sound m t) (lengths t (length ds) (length ps)) t.cycle) t.cycle n e).1

  pub few_routers : (n : ℕ) → answer_to m t (step ds ps) ≡ Ok n → (routers m ≤ length ds) × (routers m ≤ length ps)
  unfolding answer_to step_refusal step_long_enough lengths
  few_routers n e =
      let l = lengths t (length ds) (length ps) in
      let none = (answered_ok (step_refusal m (sound m t) l t.cycle) t.cycle n e).0 in
      let long = first_passed (step_long_enough m l) _ _ none in
      let two = (and_parts (long_enough m l) _ long).1 in
      let both = and_parts (leb (routers m) (length ds)) (leb (routers m) (length ps)) two in
      (leb-true (routers m) (length ds) both.0, leb-true (routers m) (length ps) both.1)

  -- a step that was taken, and its lines, where the steps that are left come to `all`
  pub one_step : (form : Form P) (count k n : ℕ) (after : Tables P) (ds' : List Delivery) (ps' : List P) (out out' : List ℕ) (all : Left (Tables P))
      → count ≡ suc k → length ds ≡ 16 → length ps ≡ 16 → outcome_of (Ok n) after ds' ps' ≡ outcome m t (step ds ps)
      → out' ≡ out ++ table_lines form n 0 (take (routers m) ds') (take (routers m) ps')
      → behind out (run_steps form m count t) ≡ all → behind out' (run_steps form m k after) ≡ all
  unfolding run_steps delivery_lines router_line stepped accepted
  one_step form count k n after ds' ps' out out' all more ld lp e w inv =
      let r = step_taken n (outcome_of (Ok n) after ds' ps') refl e in
      let ran = ran_cycle n r.0 in
      let few = few_routers n r.0 in
      let same : step_answer m t ≡ Ok n = sym (same_answer ld lp) ∙ r.0 in
      let left_is : after ≡ stepped m t = ap (λ (x : Outcome P). x.tables) r.1 in
      let rest = run_steps form m k (stepped m t) in
      let lines : table_lines form n 0 (take (routers m) ds') (take (routers m) ps') ≡ delivery_lines form m t =
      (λ i. table_lines form (ran i) 0 (take (routers m) (r.1 i).deliveries) (take (routers m) (r.1 i).delivered))
      ∙ told_lines form t.cycle (λ router. owner m router 4 t.cycle) (handed_over m t) 0 (routers m) ds ps few.0 few.1 in
      let printed : out' ++ rest.printed ≡ out ++ (delivery_lines form m t ++ rest.printed) =
      ap (λ (o : List ℕ). o ++ rest.printed) (w ∙ ap (λ (l : List ℕ). out ++ l) lines) ∙ append_assoc out (delivery_lines form m t) rest.printed in
      ap (λ (x : Tables P). behind out' (run_steps form m k x)) left_is
      ∙ (λ i. left rest.state (printed i))
      ∙ ap (λ (a : Answer). behind out (after_step form m t a rest)) (sym same)
      ∙ ap (λ (c : ℕ). behind out (run_steps form m c t)) (sym more) ∙ inv

  pub no_step : (form : Form P) (count k : ℕ) (why : Refusal) (after : Tables P) (ds' : List Delivery) (ps' : List P) (out out' : List ℕ) (all : Left (Tables P))
      → count ≡ suc k → length ds ≡ 16 → length ps ≡ 16 → outcome_of (Err why) after ds' ps' ≡ outcome m t (step ds ps) → out' ≡ out ++ refusal_line why
      → behind out (run_steps form m count t) ≡ all → left after out' ≡ all
  unfolding run_steps
  no_step form count k why after ds' ps' out out' all more ld lp e w inv =
      let r = step_refused why (outcome_of (Err why) after ds' ps') refl e in
      let same : step_answer m t ≡ Err why = sym (same_answer ld lp) ∙ r.0 in
      (λ i. left (r.1 i) (w i)) ∙ ap (λ (a : Answer). behind out (after_step form m t a (run_steps form m k (stepped m t)))) (sym same)
      ∙ ap (λ (c : ℕ). behind out (run_steps form m c t)) (sym more) ∙ inv

  pub no_step_left : (form : Form P) (count : ℕ) (out : List ℕ) (all : Left (Tables P)) → count ≡ 0
      → behind out (run_steps form m count t) ≡ all → left t out ≡ all
  unfolding run_steps
  no_step_left form count out all none inv =
      (λ i. left t (sym (append-nil out) i)) ∙ ap (λ (c : ℕ). behind out (run_steps form m c t)) (sym none) ∙ inv
