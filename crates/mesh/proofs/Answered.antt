-- What a call leaves, by what its checks say.
use Rattle.std.proofs.Common.{◌≡◌, ℕ, ◌+◌, ◌-◌, [], Some, None, Ok, Err}
use Rattle.schedule.specs.declared.refusal.Refusal.{Refusal}
use Rattle.machine.specs.Calls.{Answer, accepted, answer, answer_to, fresh, if_accepted, inject, injection_refusal, lengths, opened, opening, opening_answer, opening_refusal, outcome, outcome_of, own_queue, room, room_refusal, unchanged}
use Rattle.machine.specs.Machine.{Machine, depth}
use Rattle.machine.specs.Moves.{injection_moves, moved}
use Rattle.machine.specs.Tables.{Tables, queue_at, sound}

module _ {P : Type 0} (m : Machine) (t : Tables P) where
  pub unopened : (why : Refusal) → opening_refusal m (lengths t 0 0) ≡ Some why → outcome_of (Err why) t [] [] ≡ opening m t
  unfolding opening opening_answer answer if_accepted
  unopened why e = rw e

  pub opens : (u : Tables P) → opening_refusal m (lengths t 0 0) ≡ None → u ≡ opened m t → outcome_of (Ok 0) u [] [] ≡ opening m t
  unfolding opening opening_answer answer if_accepted
  opens u e same = rw (e, same)

  -- a room question changes nothing
  module _ (router domain : ℕ) where
    pub no_room : (a : Answer) (why : Refusal) → a ≡ Err why → room_refusal m (sound m t) (lengths t 0 0) router domain ≡ Some why
        → outcome_of a t [] [] ≡ outcome m t (room router domain)
    unfolding outcome accepted unchanged if_accepted answer_to answer
    no_room a why is e = rw (is, e)

    pub tells_room : (n : ℕ) → n ≡ depth m - (queue_at t (own_queue m router domain)).count
        → room_refusal m (sound m t) (lengths t 0 0) router domain ≡ None → outcome_of (Ok n) t [] [] ≡ outcome m t (room router domain)
    unfolding outcome accepted unchanged if_accepted answer_to answer
    tells_room n is e = rw (e, is)

  module _ (router domain destination : ℕ) (payload : P) where
    abbrev count : ℕ
    count = (queue_at t (own_queue m router domain)).count

    pub turned_away : (a : Answer) (why : Refusal) → a ≡ Err why
        → injection_refusal m (sound m t) (lengths t 0 0) router domain destination count ≡ Some why
        → outcome_of a t [] [] ≡ outcome m t (inject router domain destination payload)
    unfolding outcome accepted unchanged if_accepted answer_to answer
    turned_away a why is e = rw (is, e)

    pub taken_in : (n : ℕ) (u : Tables P) → n ≡ count + 1
        → u ≡ moved m (injection_moves t (own_queue m router domain) (fresh t.cycle router destination payload)) t.cycle t
        → injection_refusal m (sound m t) (lengths t 0 0) router domain destination count ≡ None
        → outcome_of (Ok n) u [] [] ≡ outcome m t (inject router domain destination payload)
    unfolding outcome accepted unchanged if_accepted answer_to answer
    taken_in n u is same e = rw (e, is, same)
