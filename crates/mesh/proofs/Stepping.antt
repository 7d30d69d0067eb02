-- How a step ends: refused by one of its checks, or run.
use Rattle.std.proofs.Common.{◌≡◌, ℕ, ◌+◌, ◌<◌, ◌≤◌, Bool, true, false, ◌&&◌, ltb, leb, List, [], ◌∷◌, ◌++◌, length, Some, None, Ok, Err, Option, sym, refl, ap, ◌∙◌}
use Rattle.std.proofs.lemmas.Bool.{and_parts, and_right, leb-true, ltb-true}
use Rattle.schedule.specs.declared.geometry.Position.{Position}
use Rattle.schedule.specs.declared.plan.Plan.{Plan}
use Rattle.schedule.specs.declared.refusal.Refusal.{Refusal}
use Rattle.schedule.specs.declared.refusal.Refusal.TheVariants.{TableTooShort, UnsoundTable, CyclesSpent}
use Rattle.schedule.specs.Verdict.{answered, earliest}
use Rattle.machine.specs.declared.tables.Delivery.{Delivery}
use Rattle.machine.specs.Calls.{accepted, answer, answer_to, check, if_accepted, lengths, long_enough, outcome, outcome_of, step}
use Rattle.machine.specs.Calls.{step_long_enough, step_refusal, unchanged}
use Rattle.machine.specs.Machine.{Machine, machine, owner, routers}
use Rattle.machine.specs.Moves.{edit, moved, cycle_moves, handed_over, payload_beside, record_of}
use Rattle.machine.specs.Tables.{Tables, sound}
use Rattle.mesh.specs.Answers.{table_checks}
use Rattle.mesh.specs.Heads as heads
use Rattle.mesh.proofs.Fitting.{fitting}
use Rattle.mesh.proofs.Granted.{Lent}
use Rattle.mesh.proofs.Refused.{alone, check_stops, failed, first_passes, goes_on, stops}

-- a first check of two parts, of which the second fails
short : (first second : Bool) (rest : List (Option Refusal)) (why : Refusal) → Err why ≡ answered (check second TableTooShort)
    → earliest (check (first && second) TableTooShort ∷ rest) ≡ Some why
short first second rest why e = ap (λ (b : Bool). earliest (check b TableTooShort ∷ rest)) (and_right first second (failed second TableTooShort why e))
    ∙ check_stops false false refl TableTooShort rest why (rw (failed second TableTooShort why e) at e)

module _ {P : Type 0} (m : Machine) (t : Tables P) (deliveries delivered : ℕ) where
  abbrev delivers : Bool
  delivers = leb (routers m) deliveries && leb (routers m) delivered

  abbrev refusal : Option Refusal
  refusal = step_refusal m (sound m t) (lengths t deliveries delivered) t.cycle

  -- the lengths are asked in two parts
  parted : delivers ≡ true
      → refusal ≡ earliest (check (long_enough m (lengths t 0 0) && true) TableTooShort ∷ check (sound m t) UnsoundTable
      ∷ check (ltb t.cycle 4294967295) CyclesSpent ∷ [])
  unfolding step_refusal step_long_enough lengths long_enough
  parted e = rw e refl

  and_true : (b : Bool) → (b && true) ≡ b
  and_true true = refl
  and_true false = refl

  after_delivers : delivers ≡ true → refusal ≡ earliest (table_checks m t ++ (check (ltb t.cycle 4294967295) CyclesSpent ∷ []))
  after_delivers e = parted e
      ∙ ap (λ b. earliest (check b TableTooShort ∷ check (sound m t) UnsoundTable ∷ check (ltb t.cycle 4294967295) CyclesSpent ∷ []))
      (and_true (long_enough m (lengths t 0 0)))

  pub short_deliveries : (why : Refusal) (b : Bool) → b ≡ delivers → Err why ≡ answered (check b TableTooShort) → refusal ≡ Some why
  unfolding step_refusal step_long_enough lengths
  short_deliveries why b is e = short _ delivers _ why (rw is at e)

  pub bad_tables : (why : Refusal) → delivers ≡ true → Err why ≡ answered (earliest (table_checks m t)) → refusal ≡ Some why
  bad_tables why long e = after_delivers long ∙ stops (table_checks m t) _ why e

  pub last_check : delivers ≡ true → Ok tt ≡ answered (earliest (table_checks m t))
      → answered (check (ltb t.cycle 4294967295) CyclesSpent) ≡ answered refusal
  last_check long e = alone _ ∙ sym (ap answered (after_delivers long ∙ goes_on (table_checks m t) _ e))

module _ {P : Type 0} (m : Machine) (t : Tables P) (deliveries : List Delivery) (delivered : List P) where
  pub refused : (why : Refusal) → refusal m t (length deliveries) (length delivered) ≡ Some why → outcome_of (Err why) t deliveries delivered ≡ outcome m t (step deliveries delivered)
  unfolding outcome if_accepted unchanged answer_to answer
  refused why e = rw e refl

  -- what a step that was not refused leaves
  pub runs : refusal m t (length deliveries) (length delivered) ≡ None
      → (next : Tables P) (marked : List Delivery) (handed : List P)
      → next.cycle ≡ t.cycle + 1 → next.queues ≡ (moved m (cycle_moves m t) (t.cycle + 1) t).queues
      → next.places ≡ (moved m (cycle_moves m t) (t.cycle + 1) t).places
      → next.payloads ≡ (moved m (cycle_moves m t) (t.cycle + 1) t).payloads
      → next.words ≡ (moved m (cycle_moves m t) (t.cycle + 1) t).words
      → marked ≡ edit 0 (routers m) (λ router _. record_of (owner m router 4 t.cycle) (handed_over m t router)) deliveries
      → handed ≡ edit 0 (routers m) (λ router x. payload_beside (handed_over m t router) x) delivered
      → outcome_of (Ok t.cycle) next marked handed ≡ outcome m t (step deliveries delivered)
  unfolding outcome if_accepted accepted moved answer_to answer
  runs e next marked handed c q p l w d h =
      rw e (λ i. record {
        answer = Ok t.cycle;
        tables = record { cycle = c i; queues = q i; places = p i; payloads = l i; words = w i };
        deliveries = d i;
        delivered = h i;
      })

-- what is known in a step that was not refused
pub record Running {P : Type 0} (plan : Plan) (t : Tables P) (deliveries : List Delivery) (delivered : List P) : Type 0 where
  pub lent : Lent plan t
  pub deliveries_in : heads.routers plan ≤ length deliveries
  pub delivered_in : heads.routers plan ≤ length delivered
  pub unspent : t.cycle < 4294967295

pub running : {P : Type 0} (plan : Plan) (choose : ℕ → ℕ → ℕ × ℕ) (route : Position → Position → ℕ) (t : Tables P) (deliveries : List Delivery)
    (delivered : List P) → refusal (machine plan choose route) t (length deliveries) (length delivered) ≡ None → Running plan t deliveries delivered
unfolding step_refusal step_long_enough long_enough lengths routers
running plan choose route t deliveries delivered e =
    let m = machine plan choose route in
    let l = first_passes _ TableTooShort _ e in
    let s = first_passes _ UnsoundTable _ l.1 in
    let c = first_passes _ CyclesSpent _ s.1 in
    let both = and_parts _ _ l.0 in
    let d = and_parts _ _ both.1 in
    record {
      lent = fitting plan choose route t both.0 s.0;
      deliveries_in = leb-true _ _ d.0;
      delivered_in = leb-true _ _ d.1;
      unspent = ltb-true _ _ c.0;
    }
