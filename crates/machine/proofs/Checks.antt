-- What the checks of a call tell of its answer, and the answer of them.
use Rattle.std.proofs.Common.{◌≡◌, ℕ, ◌<◌, ◌≤◌, Bool, true, false, Ok, Err, refl, arith, List, ◌∷◌, [], Option, ap}
use Rattle.schedule.specs.declared.refusal.Refusal.TheVariants.{TableTooShort, UnsoundTable}
use Rattle.machine.specs.Calls.{Answer, Lengths, answer, check, long_enough}
use Rattle.machine.specs.Calls.{step_long_enough, injection_refusal, room_refusal, step_refusal}
use Rattle.machine.specs.Machine.{Machine, depth, domains, routers}
use Rattle.machine.specs.Runs.{Asked, inject, room, step}
use Rattle.machine.proofs.OwnMachine.{answer_from}
use Rattle.schedule.specs.declared.refusal.Refusal.{Refusal}
use Rattle.schedule.specs.Refusals.{number}
use Rattle.schedule.specs.Verdict.{earliest}

-- where a call is accepted, its first check passes and the others do
pub passes : (b : Bool) (why : Refusal) (rest : List (Option Refusal)) (n k : ℕ) → answer (earliest (check b why ∷ rest)) n ≡ Ok k
    → (b ≡ true) × (answer (earliest rest) n ≡ Ok k)
unfolding check answer
passes true why rest n k e = (refl, e)
passes false why rest n k e = absurd cc

-- a refusal for another reason comes from the others
not_that : (b : Bool) (why other : Refusal) (rest : List (Option Refusal)) (n : ℕ) → (number why ≡ number other → ⊥)
    → answer (earliest (check b why ∷ rest)) n ≡ Err other → answer (earliest rest) n ≡ Err other
unfolding check answer
not_that true why other rest n d e = e
not_that false why other rest n d e = let q : why ≡ other = cc in absurd (d (ap number q))

passed : (b : Bool) (why : Refusal) (rest : List (Option Refusal)) (n : ℕ) (a : Answer) → b ≡ true
    → answer (earliest (check b why ∷ rest)) n ≡ a → answer (earliest rest) n ≡ a
unfolding check
passed true why rest n a t e = e
passed false why rest n a t e = absurd cc

no_refusal : (n : ℕ) (why : Refusal) → answer (earliest []) n ≡ Err why → ⊥
unfolding answer
no_refusal n why e = cc

-- behind the same check only what comes after it where it passes can differ
guarded : (b : Bool) (why : Refusal) (xs ys : List (Option Refusal)) (n k : ℕ)
    → (b ≡ true → answer (earliest xs) n ≡ answer (earliest ys) k)
    → answer (earliest (check b why ∷ xs)) n ≡ answer (earliest (check b why ∷ ys)) k
unfolding check answer
guarded true why xs ys n k f = f refl
guarded false why xs ys n k f = refl

-- what an accepted call was checked for
pub accepted_injection : (m : Machine) (sound : Bool) (l : Lengths) (router domain destination count n k : ℕ)
    → answer (injection_refusal m sound l router domain destination count) n ≡ Ok k
    → (router < routers m) × (destination < routers m) × (domain < domains m) × (count < depth m)
unfolding injection_refusal check answer
accepted_injection m sound l router domain destination count n k e = grind arith

pub accepted_step : (m : Machine) (sound : Bool) (l : Lengths) (cycle k : ℕ) → answer (step_refusal m sound l cycle) cycle ≡ Ok k
    → cycle ≡ k
unfolding step_refusal check answer
accepted_step m sound l cycle k e = grind arith

-- an accepted step is lent a record and a payload for each router
pub accepted_deliveries : (m : Machine) (sound : Bool) (l : Lengths) (cycle k : ℕ) → answer (step_refusal m sound l cycle) cycle ≡ Ok k
    → (routers m ≤ l.deliveries) × (routers m ≤ l.delivered)
unfolding step_refusal step_long_enough check answer
accepted_deliveries m sound l cycle k e = grind arith

unfoldable pub lengths_of : {P : Type 0} → Asked P → Lengths
lengths_of (inject l router domain destination payload) = l
lengths_of (room l router domain) = l
lengths_of (step l) = l

-- the domain that a call names
unfoldable pub Names : {P : Type 0} → Asked P → ℕ → Type 0
Names (inject l router domain destination payload) d = domain ≡ d
Names (room l router domain) d = domain ≡ d
Names (step l) d = ⊥

module _ {P : Type 0} (m : Machine) (sound : Bool) (cycle : ℕ) (count : ℕ → ℕ → ℕ) where
  pub accepted_long : (call : Asked P) (k : ℕ) → answer_from m sound cycle count call ≡ Ok k → long_enough m (lengths_of call) ≡ true
  unfolding answer_from injection_refusal room_refusal step_refusal step_long_enough lengths_of check answer
  accepted_long call k e = grind arith

  pub too_short : (call : Asked P) → long_enough m (lengths_of call) ≡ false → answer_from m sound cycle count call ≡ Err TableTooShort
  unfolding answer_from injection_refusal room_refusal step_refusal step_long_enough lengths_of check answer
  too_short call e = grind arith

  -- of the counts only that of the domain named matters, and that only within the mesh
  pub unread : (other : ℕ → ℕ → ℕ) (call : Asked P)
      → ((router domain : ℕ) → router < routers m → domain < domains m → Names call domain → count router domain ≡ other router domain)
      → answer_from m sound cycle count call ≡ answer_from m sound cycle other call
  unfolding answer_from injection_refusal room_refusal Names check answer
  unread other (inject l router domain destination payload) same = grind (arith, same router domain)
  unread other (room l router domain) same = grind (arith, same router domain)
  unread other (step l) same = refl

  pub not_unsound : sound ≡ true → (call : Asked P) → answer_from m sound cycle count call ≡ Err UnsoundTable → ⊥
  unfolding answer_from injection_refusal room_refusal step_refusal check answer
  not_unsound s call e = grind arith
