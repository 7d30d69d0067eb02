-- A call on tables just as long as needed is, for the domain that it concerns, that call on the domain's view; for any other it is nothing.
use Rattle.std.proofs.Common.{◌≡◌, ℕ, ◌+◌, ◌<◌, Bool, true, false, cond, ◌&&◌, eqb, [], ◌∷◌, ◌++◌, length, sym, refl, ap, ◌∙◌, subst, arith}
use Rattle.std.proofs.lemmas.List.{append-nil}
use Rattle.std.proofs.lemmas.Bool.{eqb-true, eqb-false, eq-eqb, ne_eqb, cond-false}
use Rattle.machine.specs.Calls.{Answer, Lengths, if_accepted, fresh, own_queue}
use Rattle.machine.specs.Machine.{Machine, depth, domains, inside, routers, queue_number}
use Rattle.machine.specs.Moves.{moved, cycle_moves, injection_moves}
use Rattle.machine.specs.Packets.{Packet}
use Rattle.machine.specs.Runs.{Asked, inject, room, step, concerns}
use Rattle.machine.specs.Tables.{Tables, queue_at, view, sound}
use Rattle.machine.proofs.Checks.{accepted_injection, unread, Names}
use Rattle.machine.proofs.Choices.{InLimits}
use Rattle.machine.proofs.Laws.{Kept}
use Rattle.machine.proofs.Moved.{length_packets}
use Rattle.machine.proofs.OwnMachine.{answer_from, added, own_answer, own_next, if_both, if_same}
use Rattle.machine.proofs.QueueNumbers.{inside_parts, inside_from, queue_number_lt}
use Rattle.machine.proofs.QueueNumbers.{domain_queue_number, side_queue_number, router_queue_number}
use Rattle.machine.proofs.Soundness.{Intact, sound_from, can_cycle, can_inject, intact_inject, intact_cycle}
use Rattle.machine.proofs.Views.{same_view, queue_in, queue_out, word_in, word_out, queue_moved, words_moved, cycle_seen}

-- two queue numbers are one exactly if router, side and domain are
module _ (c : Machine) (s i e r d : ℕ) (hs : s < routers c) (hi : i < 5) (he : e < domains c) (hr : r < routers c)
    (hd : d < domains c) where
  numbers_same : e ≡ d → eqb (queue_number c s i e) (queue_number c r 4 d) ≡ (eqb s r && eqb i 4)
  numbers_same ed = grind (
    arith,
    router_queue_number c s i e hs hi he,
    router_queue_number c r 4 d hr (omega arith) hd,
    side_queue_number c s i e hs hi he,
    side_queue_number c r 4 d hr (omega arith) hd,
  )

  numbers_apart : eqb e d ≡ false → eqb (queue_number c s i e) (queue_number c r 4 d) ≡ false
  numbers_apart ed = grind (arith, domain_queue_number c s i e hs hi he, domain_queue_number c r 4 d hr (omega arith) hd)

-- an injection, seen by its own domain and by another
module _ {P : Type 0} (c : Machine) (kept : Kept c) (t : Tables P) (ok : Intact c t) (r d : ℕ) (x : Packet P)
    (hr : r < routers c) (hd : d < domains c) (full : (queue_at t (queue_number c r 4 d)).count < depth c) where
  into : Tables P
  into = moved c (injection_moves t (queue_number c r 4 d) x) t.cycle t

  into_word : (e : ℕ) → e < domains c → (a i : ℕ) → (view c into e).word a i ≡ (view c t e).word a i
  unfolding into injection_moves
  into_word e he a i =
      let q : ℕ = queue_number c r 4 d in
      let moves = words_moved c kept.depth_some t ok.exact (injection_moves t q x) t.cycle (can_inject c kept t ok q x full) e he a i in
      grind (arith, moves, word_in c t e a i, word_out c into e a i, word_out c t e a i)

  into_queue : (e : ℕ) → e < domains c → (a i : ℕ) → inside c a i ≡ true
      → (view c into e).queue a i ≡ (view c t e).queue a i ++ cond (eqb (queue_number c a i e) (queue_number c r 4 d)) (x ∷ []) []
  unfolding into injection_moves
  into_queue e he a i h =
      let q : ℕ = queue_number c r 4 d in
      queue_moved c kept.depth_some t ok.exact (injection_moves t q x) t.cycle (can_inject c kept t ok q x full) e he a i h

  pub inject_seen : view c (moved c (injection_moves t (queue_number c r 4 d) x) t.cycle t) d ≡ added c r x (view c t d)
  unfolding added into moved view
  inject_seen = same_view _ _ refl (λ a i. (go a i (inside c a i) refl, into_word d hd a i))
    where
      go : (a i : ℕ) (b : Bool) → inside c a i ≡ b → (view c into d).queue a i ≡ (added c r x (view c t d)).queue a i
      go a i true h = let p = inside_parts c a i h in
          grind (arith, into_queue d hd a i h, numbers_same c a i d r d p.0 p.1 hd hr hd refl)
      go a i false h = queue_out c into d a i h ∙ sym (cond-false _ _ _ h)

  pub inject_unseen : (e : ℕ) → e < domains c → eqb e d ≡ false
      → view c (moved c (injection_moves t (queue_number c r 4 d) x) t.cycle t) e ≡ view c t e
  unfolding into moved view
  inject_unseen e he n = same_view _ _ refl (λ a i. (go a i (inside c a i) refl, into_word e he a i))
    where
      go : (a i : ℕ) (b : Bool) → inside c a i ≡ b → (view c into e).queue a i ≡ (view c t e).queue a i
      go a i true h = let p = inside_parts c a i h in
          grind (arith, append-nil, into_queue e he a i h, numbers_apart c a i e r d p.0 p.1 he hr hd n)
      go a i false h = queue_out c into e a i h ∙ sym (queue_out c t e a i h)

-- a call on tables just as long as needed: the answer, and the tables after it
unfoldable pub answered : {P : Type 0} → Machine → Tables P → Asked P → Answer
answered c t call = answer_from c (sound c t) t.cycle (λ router domain. (queue_at t (own_queue c router domain)).count) call

unfoldable pub then : {P : Type 0} → Machine → Tables P → Asked P → Tables P
then c t (inject l router domain destination payload) =
    if_accepted (answered c t (inject l router domain destination payload))
    (moved c (injection_moves t (own_queue c router domain) (fresh t.cycle router destination payload)) t.cycle t) t
then c t (room l router domain) = t
then c t (step l) = if_accepted (answered c t (step l)) (moved c (cycle_moves c t) (t.cycle + 1) t) t

module _ {P : Type 0} (c : Machine) (kept : Kept c) (t : Tables P) (ok : Intact c t) where
  fresh_within : (r e : ℕ) (x : P) → r < routers c → e < routers c → InLimits c t.cycle (fresh t.cycle r e x)
  unfolding fresh
  fresh_within r e x h k = record { destination = k; source = h; ready = omega (arith, kept.hop_some) }

  pub then_intact : (call : Asked P) → Intact c (then c t call)
  unfolding then answered answer_from own_queue
  then_intact (inject l r d e x) = if_both (Intact c) _ _ _ (λ n a.
      let p = accepted_injection c _ l r d e _ _ n a in intact_inject c kept t ok _ _ p.3 (fresh_within r e x p.0 p.1)) ok
  then_intact (room l r d) = ok
  then_intact (step l) = if_both (Intact c) _ _ _ (λ n a. intact_cycle c kept t ok) ok

  module _ (d : ℕ) (hd : d < domains c) where
    pub then_other : (call : Asked P) → concerns d call ≡ false → view c (then c t call) d ≡ view c t d
    unfolding then answered answer_from concerns own_queue
    then_other (inject l r e f x) k = if_both (λ (u : Tables P). view c u d ≡ view c t d) _ _ _ (λ n a.
        let p = accepted_injection c _ l r e f _ _ n a in
        inject_unseen c kept t ok r e _ p.0 p.2 p.3 d hd (ne_eqb _ _ (λ q. eqb-false e d k (sym q)))) refl
    then_other (room l r e) k = refl
    then_other (step l) k = cc

    count_seen : (r : ℕ) → r < routers c → (queue_at t (queue_number c r 4 d)).count ≡ length ((view c t d).queue r 4)
    count_seen r h =
        sym (ap length (queue_in c t d r 4 (inside_from c r 4 h (omega arith)))
        ∙ length_packets c kept.depth_some t ok.exact _ (queue_number_lt c r 4 d h (omega arith) hd))

    named_is : (call : Asked P) (e : ℕ) → concerns d call ≡ true → Names call e → e ≡ d
    unfolding concerns Names
    named_is call e k q = grind arith

    pub answer_own : (call : Asked P) → concerns d call ≡ true → answered c t call ≡ own_answer c (view c t d) call
    unfolding answered own_answer view own_queue
    answer_own call k =
        let counts : ℕ → ℕ → ℕ = λ r e. (queue_at t (queue_number c r 4 e)).count in
        ap (λ (b : Bool). answer_from c b t.cycle counts call) (sound_from c t ok)
        ∙ unread c true t.cycle counts (λ r _. length ((view c t d).queue r 4)) call
        (λ r e hr he n. ap (counts r) (named_is call e k n) ∙ count_seen r hr)

    then_inject : (l : Lengths) (r f : ℕ) (x : P) → view c (then c t (inject l r d f x)) d ≡ own_next c d (view c t d) (inject l r d f x)
    unfolding then own_next own_answer answer_from view own_queue concerns
    then_inject l r f x =
        if_same (λ (u : Tables P). view c u d) _ _ _ _ _ _ (answer_own (inject l r d f x) (eq-eqb d d refl)) (λ n a.
        let p = accepted_injection c true l r d f _ _ n a in
        inject_seen c kept t ok r d (fresh t.cycle r f x) p.0 hd (omega (arith, count_seen r p.0, p.3))) refl

    pub then_own : (call : Asked P) → concerns d call ≡ true → view c (then c t call) d ≡ own_next c d (view c t d) call
    unfolding then own_next concerns
    then_own (inject l r e f x) k =
        subst (λ (n : ℕ). view c (then c t (inject l r n f x)) d ≡ own_next c d (view c t d) (inject l r n f x)) (sym (eqb-true e d k))
        (then_inject l r f x)
    then_own (room l r e) k = refl
    then_own (step l) k =
        if_same (λ (u : Tables P). view c u d) _ _ _ _ _ _ (answer_own (step l) k)
        (λ n a. cycle_seen c kept.depth_some t ok.exact (can_cycle c kept t ok) d hd) refl
