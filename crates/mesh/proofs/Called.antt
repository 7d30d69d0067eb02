-- The two ways in which a call ends, what the tables' checks tell of them, and how a step's checks decide it.
use Rattle.std.proofs.Common.{◌≡◌, ℕ, ◌<◌, ◌≤◌, Bool, true, false, ◌&&◌, ltb, leb, List, length, Ok, Err, sym, refl, ap₂}
use Rattle.std.proofs.lemmas.Bool.{and_parts, leb-true, ltb-true}
use Rattle.schedule.specs.declared.plan.Plan.{Plan}
use Rattle.schedule.specs.declared.refusal.Refusal.{Refusal}
use Rattle.schedule.specs.declared.refusal.Refusal.TheVariants.{TableTooShort, UnsoundTable, CyclesSpent}
use Rattle.machine.specs.declared.tables.Delivery.{Delivery}
use Rattle.machine.specs.Calls.{Call, accepted, answer, answer_to, check, if_accepted, lengths, long_enough, outcome, outcome_of, step}
use Rattle.machine.specs.Calls.{step_long_enough, step_refusal, unchanged}
use Rattle.machine.specs.Machine.{Machine, routers}
use Rattle.machine.specs.Tables.{Tables, sound}
use Rattle.mesh.specs.Heads.{queue_count}
use Rattle.mesh.specs.Heads as heads
use Rattle.mesh.specs.Needed.{WithAnyRules, six}
use Rattle.mesh.specs.Scan as scan
use Rattle.mesh.proofs.Fitting.{Long}
use Rattle.mesh.proofs.Granted.{Lent}
use Rattle.mesh.proofs.Scan.{below_at}

module _ {P : Type 0} (m : Machine) (t : Tables P) (call : Call P) where
  pub refused : (why : Refusal) → answer_to m t call ≡ Err why → unchanged (Err why) t call ≡ outcome m t call
  unfolding outcome if_accepted
  refused why e = rw e refl

  pub ran : (n : ℕ) → answer_to m t call ≡ Ok n → accepted m t call ≡ outcome m t call
  unfolding outcome if_accepted
  ran n e = rw e refl

pub deliveries_long : (plan : Plan) (a b : ℕ) → WithAnyRules plan (λ m. true ≡ (leb (routers m) a && leb (routers m) b))
    → (heads.routers plan ≤ a) × (heads.routers plan ≤ b)
unfolding routers
deliveries_long plan a b is =
    let p = and_parts _ _ (sym (is (λ word _. (0, word)) (λ _ _. 0))) in
    (leb-true _ _ p.0, leb-true _ _ p.1)

pub lent : {P : Type 0} (plan : Plan) (t : Tables P)
    → Long plan (six (length t.queues) (length t.places) (length t.payloads) (length t.words) 0 0)
    → scan.sound plan t.cycle t.queues t.places ≡ true → Lent plan t
unfolding scan.sound scan.sound_queue
lent plan t l ok =
    let one = λ (q : ℕ) (h : q < queue_count plan). and_parts _ _
    (below_at (scan.sound_queue plan t.cycle t.queues t.places) (queue_count plan) q ok h) in
    record {
      fit = record {
        queues_in = l.queues_in;
        places_in = l.places_in;
        firsts = λ q h. ltb-true _ _ (one q h).0;
        counts = λ q h. leb-true _ _ (and_parts _ _ (one q h).1).0;
      };
      payloads_in = l.payloads_in;
      words_in = l.words_in;
    }

-- a step
module _ {P : Type 0} (m : Machine) (t : Tables P) (deliveries : List Delivery) (delivered : List P) where
  abbrev long : Bool
  long = step_long_enough m (lengths t (length deliveries) (length delivered))

  pub long_is : (a b : Bool)
      → a ≡ long_enough m (six (length t.queues) (length t.places) (length t.payloads) (length t.words) 0 0)
      → b ≡ (leb (routers m) (length deliveries) && leb (routers m) (length delivered)) → (a && b) ≡ long
  unfolding step_long_enough long_enough lengths
  long_is a b e f = ap₂ ◌&&◌ e f

  too_short : long ≡ false → answer_to m t (step deliveries delivered) ≡ Err TableTooShort
  unfolding answer_to step_refusal check answer
  too_short e = rw e refl

  unsound : long ≡ true → sound m t ≡ false → answer_to m t (step deliveries delivered) ≡ Err UnsoundTable
  unfolding answer_to step_refusal check answer
  unsound e f = rw (e, f) refl

  spent : long ≡ true → sound m t ≡ true → ltb t.cycle 4294967295 ≡ false → answer_to m t (step deliveries delivered) ≡ Err CyclesSpent
  unfolding answer_to step_refusal check answer
  spent e f g = rw (e, f, g) refl

  answered : long ≡ true → sound m t ≡ true → ltb t.cycle 4294967295 ≡ true → answer_to m t (step deliveries delivered) ≡ Ok t.cycle
  unfolding answer_to step_refusal check answer
  answered e f g = rw (e, f, g) refl

  pub refuses_short : long ≡ false → outcome_of (Err TableTooShort) t deliveries delivered ≡ outcome m t (step deliveries delivered)
  unfolding unchanged
  refuses_short e = refused m t (step deliveries delivered) TableTooShort (too_short e)

  pub refuses_unsound : long ≡ true → sound m t ≡ false
      → outcome_of (Err UnsoundTable) t deliveries delivered ≡ outcome m t (step deliveries delivered)
  unfolding unchanged
  refuses_unsound e f = refused m t (step deliveries delivered) UnsoundTable (unsound e f)

  pub refuses_spent : long ≡ true → sound m t ≡ true → ltb t.cycle 4294967295 ≡ false
      → outcome_of (Err CyclesSpent) t deliveries delivered ≡ outcome m t (step deliveries delivered)
  unfolding unchanged
  refuses_spent e f g = refused m t (step deliveries delivered) CyclesSpent (spent e f g)
