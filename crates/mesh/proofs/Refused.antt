-- Checks made one after the other: where they stop, and what passing them tells.
use Rattle.std.proofs.Common.{◌≡◌, ℕ, Bool, true, false, List, [], ◌∷◌, ◌++◌, IsErrAnd, Some, None, Ok, Err, Option, Result, sym, refl, ap, ◌∙◌, arith}
use Rattle.std.proofs.lemmas.Result.{err_from_is_err_and}
use Rattle.schedule.specs.declared.refusal.Refusal.{Refusal}
use Rattle.schedule.specs.Verdict.{answered, earliest}
use Rattle.machine.specs.Calls.{answer, check}

apart : {why : Refusal} → ◌≡◌ {A = Result (Unit {0}) Refusal} (Err why) (Ok tt) → ⊥
apart e = let z : ◌≡◌ {A = ℕ} 0 1 = cc in omega arith

-- the first checks of a list refuse, or all of them pass
pub stops : (front rest : List (Option Refusal)) (why : Refusal) → Err why ≡ answered (earliest front) → earliest (front ++ rest) ≡ Some why
stops [] rest why e = absurd (apart e)
stops (None ∷ front) rest why e = stops front rest why e
stops (Some other ∷ front) rest why e = cc

pub goes_on : (front rest : List (Option Refusal)) → Ok tt ≡ answered (earliest front) → earliest (front ++ rest) ≡ earliest rest
goes_on [] rest e = refl
goes_on (None ∷ front) rest e = goes_on front rest e
goes_on (Some other ∷ front) rest e = absurd (apart (sym e))

pub passed : (passes : Bool) (refusal : Refusal) → Ok tt ≡ answered (check passes refusal) → passes ≡ true
unfolding check
passed true refusal e = refl
passed false refusal e = absurd (apart (sym e))

pub failed : (passes : Bool) (refusal why : Refusal) → Err why ≡ answered (check passes refusal) → passes ≡ false
unfolding check
failed true refusal why e = absurd (apart e)
failed false refusal why e = refl

-- one check, of a test and of the definition that it decides
pub check_stops : (passes test : Bool) (is : passes ≡ test) (refusal : Refusal) (rest : List (Option Refusal)) (why : Refusal)
    → Err why ≡ answered (check passes refusal) → earliest (check test refusal ∷ rest) ≡ Some why
unfolding check
check_stops true test is refusal rest why e = absurd (apart e)
check_stops false test is refusal rest why e = let same : refusal ≡ why = cc in rw (← is) (ap (λ (x : Refusal). Some x) same)

pub check_passes : (passes test : Bool) (is : passes ≡ test) (refusal : Refusal) (rest : List (Option Refusal))
    → Ok tt ≡ answered (check passes refusal) → earliest (check test refusal ∷ rest) ≡ earliest rest
unfolding check
check_passes true test is refusal rest e = rw (← is)
check_passes false test is refusal rest e = absurd (apart (sym e))

pub alone : (v : Option Refusal) → answered v ≡ answered (earliest (v ∷ []))
alone None = refl
alone (Some why) = refl

-- what the exit of a `?` returns
pub handed_on : {X : Type 0} (r : Result X Refusal) (why : Refusal) → IsErrAnd r (λ y. y ≡ why) → r ≡ Err why
handed_on r why e = let p = err_from_is_err_and r e in p.1 ∙ ap (λ (y : Refusal). Err y) p.2

-- a list of checks that all pass
pub first_passes : (passes : Bool) (refusal : Refusal) (rest : List (Option Refusal)) → earliest (check passes refusal ∷ rest) ≡ None
    → (passes ≡ true) × (earliest rest ≡ None)
unfolding check
first_passes true refusal rest e = (refl, e)
first_passes false refusal rest e = absurd (let z : ◌≡◌ {A = ℕ} 0 1 = cc in omega arith)

pub none_refuses : (v : Option Refusal) → Ok tt ≡ answered v → v ≡ None
none_refuses None e = refl
none_refuses (Some why) e = absurd (apart (sym e))

pub some_refuses : (v : Option Refusal) (why : Refusal) → Err why ≡ answered v → v ≡ Some why
some_refuses None why e = absurd (apart e)
some_refuses (Some other) why e = cc

pub admits : (v : Option Refusal) (n k : ℕ) → Ok k ≡ answer v n → (v ≡ None) × (k ≡ n)
unfolding answer
admits None n k e = (refl, cc)
admits (Some why) n k e = absurd (let z : ◌≡◌ {A = ℕ} 0 1 = cc in omega arith)

pub refuses : (v : Option Refusal) (n : ℕ) (why : Refusal) → Err why ≡ answer v n → v ≡ Some why
unfolding answer
refuses None n why e = absurd (let z : ◌≡◌ {A = ℕ} 0 1 = cc in omega arith)
refuses (Some other) n why e = cc
