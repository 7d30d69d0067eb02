-- One domain's machine: the same calls on the domain's part of the mesh alone.
use Rattle.std.proofs.Common.{◌≡◌, ℕ, ◌+◌, ◌-◌, Bool, true, cond, ◌&&◌, eqb, List, [], ◌∷◌, ◌++◌, length, Ok, Err, refl, ap, ◌∙◌}
use Rattle.machine.specs.Calls.{Answer, answer, if_accepted, injection_refusal, room_refusal, step_refusal, fresh}
use Rattle.machine.specs.Cycle.{after, delivers}
use Rattle.machine.specs.Machine.{Machine, depth, inside}
use Rattle.machine.specs.Packets.{Packet, View, Arrival}
use Rattle.machine.specs.Runs.{Asked, inject, room, step, Note}

-- what a call answers, given whether the tables are sound, the cycle, and the count of each router's own queue for each domain
unfoldable pub answer_from : {P : Type 0} → Machine → Bool → ℕ → (ℕ → ℕ → ℕ) → Asked P → Answer
answer_from m sound cycle count (inject l router domain destination payload) =
    answer (injection_refusal m sound l router domain destination (count router domain)) (count router domain + 1)
answer_from m sound cycle count (room l router domain) = answer (room_refusal m sound l router domain) (depth m - count router domain)
answer_from m sound cycle count (step l) = answer (step_refusal m sound l cycle) cycle

-- one packet more in a router's own queue
unfoldable pub added : {P : Type 0} → Machine → ℕ → Packet P → View P → View P
added m router x v = record {
  cycle = v.cycle;
  queue = λ r i. cond (inside m r i) (v.queue r i ++ cond (eqb r router && eqb i 4) (x ∷ []) []) [];
  word = v.word;
}

unfoldable pub own_answer : {P : Type 0} → Machine → View P → Asked P → Answer
own_answer m v call = answer_from m true v.cycle (λ router _. length (v.queue router 4)) call

unfoldable pub own_next : {P : Type 0} → Machine → ℕ → View P → Asked P → View P
own_next m domain v (inject l router named destination payload) =
    if_accepted (own_answer m v (inject l router named destination payload))
    (added m router (fresh v.cycle router destination payload) v) v
own_next m domain v (room l router named) = v
own_next m domain v (step l) = if_accepted (own_answer m v (step l)) (after m domain v) v

unfoldable pub own_deliveries : {P : Type 0} → Machine → ℕ → View P → Asked P → List (Arrival P)
own_deliveries m domain v (inject l router named destination payload) = []
own_deliveries m domain v (room l router named) = []
own_deliveries m domain v (step l) = if_accepted (own_answer m v (step l)) (delivers m domain v) []

unfoldable pub own_notes : {P : Type 0} → Machine → ℕ → View P → List (Asked P) → List (Note P)
own_notes m domain v [] = []
own_notes m domain v (call ∷ calls) =
    record { call = call; answer = own_answer m v call; deliveries = own_deliveries m domain v call; left = own_next m domain v call }
    ∷ own_notes m domain (own_next m domain v call) calls

unfoldable pub own_run : {P : Type 0} → Machine → ℕ → View P → List (Asked P) → View P
own_run m domain v [] = v
own_run m domain v (call ∷ calls) = own_run m domain (own_next m domain v call) calls

-- a new mesh as each domain has it
unfoldable pub nothing : {P : Type 0} → View P
nothing = record { cycle = 0; queue = λ _ _. []; word = λ _ _. 0 }

-- what holds whether or not a call is accepted
pub if_both : {X : Type 0} (Q : X → Type 0) (a : Answer) (x y : X) → ((n : ℕ) → a ≡ Ok n → Q x) → Q y → Q (if_accepted a x y)
unfolding if_accepted
if_both Q (Ok n) x y f g = f n refl
if_both Q (Err why) x y f g = g

pub if_same : {X Y : Type 0} (F : X → Y) (a b : Answer) (x y : X) (x' y' : Y) → a ≡ b → ((n : ℕ) → b ≡ Ok n → F x ≡ x') → F y ≡ y'
    → F (if_accepted a x y) ≡ if_accepted b x' y'
unfolding if_accepted
if_same F a (Ok n) x y x' y' e f g = ap (λ w. F (if_accepted w x y)) e ∙ f n refl
if_same F a (Err why) x y x' y' e f g = ap (λ w. F (if_accepted w x y)) e ∙ g
