-- One call of a run, however its tables are lent, is that call on the tables of the mesh.
use Rattle.std.proofs.Common.{◌≡◌, ℕ, zero, suc, ◌+◌, ◌*◌, ◌<◌, ◌≤◌, Bool, true, false, cond, ◌&&◌, eqb, List, [], ◌∷◌, ◌++◌, map, length, get_or, take, Ok, Err, sym, refl, ap, ◌∙◌, subst, ap₂, ⊎_elim, arith}
use mathlib.Core.Path.{fun_ext}
use Rattle.std.specs.List.{range_with_len, flat_map}
use Rattle.std.proofs.Math.Seq.{take-nil}
use Rattle.std.proofs.lemmas.Bool.{cases_Bool, and_parts, leb-true, cond-true}
use Rattle.schedule.specs.declared.refusal.Refusal.{Refusal}
use Rattle.machine.specs.declared.tables.Delivery.{Delivery}
use Rattle.machine.specs.declared.tables.Queue.{Queue}
use Rattle.machine.specs.Calls.{Lengths, lengths, long_enough, Answer, if_accepted, Call, inject, room}
use Rattle.machine.specs.Calls.{step, own_queue, answer_to, Outcome, accepted, unchanged, outcome, fresh}
use Rattle.machine.specs.Cycle.{sends, grants, arrival, delivers}
use Rattle.machine.specs.Machine.{Machine, depth, domains, routers, queues, queue_number, owner}
use Rattle.machine.specs.Moves.{Moves, edit, moved, cycle_moves, injection_moves, handed_over, record_of, payload_beside}
use Rattle.machine.specs.Packets.{Packet, View, Arrival}
use Rattle.machine.specs.Runs as runs
use Rattle.machine.specs.Runs.{Event, lend, take_back, happens, next, Asked, lent_lengths, asked_by, asked, concerns, marked, deliveries}
use Rattle.machine.specs.Tables.{Tables, queue_at, view, sound}
use Rattle.machine.proofs.Checks.{lengths_of, accepted_long, accepted_deliveries, too_short, unread}
use Rattle.machine.proofs.Choices.{sends_one}
use Rattle.machine.proofs.Edits.{lent_is, covers, back_lent, back_over}
use Rattle.machine.proofs.Isolation.{answered, then, then_intact, then_other, then_own, answer_own}
use Rattle.machine.proofs.Laws.{Kept}
use Rattle.machine.proofs.Lent.{same_tables, onto, queue_at_same, word_same, view_same, sound_same, moves_same, moved_same}
use Rattle.machine.proofs.Moved.{Exact, exact_moved}
use Rattle.machine.proofs.OwnMachine.{answer_from, own_answer, own_next, own_deliveries}
use Rattle.machine.proofs.QueueNumbers.{queue_number_lt}
use Rattle.machine.proofs.Soundness.{Intact}

-- what an outcome is where the call is accepted and where it is refused
module _ {P : Type 0} (c : Machine) (t : Tables P) (call : Call P) where
  when_accepted : (n : ℕ) → answer_to c t call ≡ Ok n → outcome c t call ≡ accepted c t call
  unfolding outcome if_accepted
  when_accepted n h = ap (λ (a : Answer). if_accepted a (accepted c t call) (unchanged (answer_to c t call) t call)) h

  when_refused : (why : Refusal) → answer_to c t call ≡ Err why → outcome c t call ≡ unchanged (answer_to c t call) t call
  unfolding outcome if_accepted
  when_refused why h = ap (λ (a : Answer). if_accepted a (accepted c t call) (unchanged (answer_to c t call) t call)) h

module _ {P : Type 0} (c : Machine) (t : Tables P) where
  tables_unchanged : (a : Answer) (call : Call P) → (unchanged a t call).tables ≡ t
  unfolding unchanged
  tables_unchanged a call = grind arith

  answer_unchanged : (a : Answer) (call : Call P) → (unchanged a t call).answer ≡ a
  unfolding unchanged
  answer_unchanged a (inject r d e x) = refl
  answer_unchanged a (room r d) = refl
  answer_unchanged a (step ds gs) = refl

  answer_accepted : (call : Call P) → (accepted c t call).answer ≡ answer_to c t call
  unfolding accepted
  answer_accepted call = grind arith

  outcome_answer : (call : Call P) → (outcome c t call).answer ≡ answer_to c t call
  unfolding outcome if_accepted accepted unchanged answer_to
  outcome_answer call = grind arith

  -- a call by the lengths of the tables that it is lent
  asked_of : Call P → Asked P
  asked_of (inject r d e x) = runs.inject (lengths t 0 0) r d e x
  asked_of (room r d) = runs.room (lengths t 0 0) r d
  asked_of (step ds gs) = runs.step (lengths t (length ds) (length gs))

  answer_of : (call : Call P) → answer_to c t call ≡ answered c t (asked_of call)
  unfolding answer_to answered answer_from asked_of
  answer_of (inject r d e x) = refl
  answer_of (room r d) = refl
  answer_of (step ds gs) = refl

-- the records that a step leaves are the domain's deliveries
module _ {P : Type 0} (c : Machine) (t : Tables P) (d : ℕ) where
  record_at : (n r : ℕ) (g : P) → List (Packet P) → List (Arrival P)
  record_at n r g xs =
      cond (eqb (record_of n xs).mark 1 && eqb (record_of n xs).domain d)
      (record { cycle = t.cycle; router = r; source = (record_of n xs).source; payload = payload_beside xs g } ∷ []) []

  own_record : (n r : ℕ) (g : P) (xs : List (Packet P)) → length xs ≤ 1 → eqb n d ≡ true
      → record_at n r g xs ≡ map (arrival t.cycle r) xs
  unfolding record_at record_of payload_beside arrival
  own_record n r g [] h k = refl
  own_record n r g (x ∷ []) h k = cond-true _ _ _ k
  own_record n r g (x ∷ (y ∷ xs)) h k = absurd (omega arith)

  other_record : (n r : ℕ) (g : P) (xs : List (Packet P)) → eqb n d ≡ false → record_at n r g xs ≡ []
  unfolding record_at record_of
  other_record n r g xs k = grind arith

  not_owned : (r p : ℕ) → eqb (owner c r p t.cycle) d ≡ false → sends c d (view c t d) r p ≡ []
  unfolding sends grants view
  not_owned r p k = rw k

  one_record : (r : ℕ) (g : P) (b : Bool) → eqb (owner c r 4 t.cycle) d ≡ b
      → record_at (owner c r 4 t.cycle) r g (handed_over c t r) ≡ map (arrival t.cycle r) (sends c d (view c t d) r 4)
  unfolding handed_over
  one_record r g true k = grind (arith, own_record (owner c r 4 t.cycle) r g (handed_over c t r) (sends_one c _ _ r 4) k)
  one_record r g false k = grind (arith, other_record (owner c r 4 t.cycle) r g (handed_over c t r) k, not_owned r 4 k)

  records : (a n : ℕ) (ds : List Delivery) (gs : List P) → n ≤ length ds → n ≤ length gs
      → marked t.cycle d a (take n (edit a n (λ r _. record_of (owner c r 4 t.cycle) (handed_over c t r)) ds))
      (take n (edit a n (λ r x. payload_beside (handed_over c t r) x) gs))
      ≡ flat_map (λ (r : ℕ). map (arrival t.cycle r) (sends c d (view c t d) r 4)) (range_with_len a n)
  unfolding marked edit record_at
  records a zero ds gs h k = refl
  records a (suc n) [] gs h k = absurd (omega arith)
  records a (suc n) (x ∷ ds) [] h k = absurd (omega arith)
  records a (suc n) (x ∷ ds) (g ∷ gs) h k =
      ap₂ ◌++◌ (one_record a g (eqb (owner c a 4 t.cycle) d) refl) (records (a + 1) n ds gs (omega arith) (omega arith))

module _ {P : Type 0} (c : Machine) (kept : Kept c) (t : Tables P) (exact : Exact c t) (e : Event P) where
  lengths_lent : (n k : ℕ) → lengths (lend e t) n k ≡ lent_lengths c e n k
  unfolding lengths lend lent_lengths
  lengths_lent n k = λ i. record {
    queues = lent_is e.queues t.queues (queues c) exact.queue_table i;
    places = lent_is e.places t.places (queues c * depth c) exact.place_table i;
    payloads = lent_is e.payloads t.payloads (queues c * depth c) exact.payload_table i;
    words = lent_is e.words t.words (queues c) exact.word_table i;
    deliveries = n;
    delivered = k;
  }

  asked_lent : (call : Call P) → asked_of c (lend e t) call ≡ asked_by c e call
  unfolding asked_by asked_of
  asked_lent (inject r d f x) = ap (λ (l : Lengths). runs.inject l r d f x) (lengths_lent 0 0)
  asked_lent (room r d) = ap (λ (l : Lengths). runs.room l r d) (lengths_lent 0 0)
  asked_lent (step ds gs) = ap (λ (l : Lengths). runs.step l) (lengths_lent (length ds) (length gs))

  -- tables that are long enough are the whole mesh with something behind
  abbrev Covered : Type 0
  Covered = (b : Tables P) × (lend e t ≡ onto t b)

  covered_by : (n k : ℕ) → long_enough c (lent_lengths c e n k) ≡ true → Covered
  unfolding long_enough lent_lengths lend
  covered_by n k h =
      let p = and_parts _ _ h in
      let q = and_parts _ _ p.1 in
      let o = and_parts _ _ q.1 in
      let r1 = covers e.queues t.queues (queues c) exact.queue_table (leb-true _ _ p.0) in
      let r2 = covers e.places t.places (queues c * depth c) exact.place_table (leb-true _ _ q.0) in
      let r3 = covers e.payloads t.payloads (queues c * depth c) exact.payload_table (leb-true _ _ o.0) in
      let r4 = covers e.words t.words (queues c) exact.word_table (leb-true _ _ o.1) in (
        record { cycle = 0; queues = r1.0; places = r2.0; payloads = r3.0; words = r4.0 },
        same_tables _ _ refl r1.1 r2.1 r3.1 r4.1,
      )

  covered : (call : Call P) → long_enough c (lengths_of (asked_by c e call)) ≡ true → Covered
  unfolding lengths_of asked_by
  covered (inject r d f x) h = covered_by 0 0 h
  covered (room r d) h = covered_by 0 0 h
  covered (step ds gs) h = covered_by (length ds) (length gs) h

  same_onto : (b : Tables P) (call : Asked P) → answered c (onto t b) call ≡ answered c t call
  unfolding answered own_queue
  same_onto b call =
      let counts : Tables P → ℕ → ℕ → ℕ = λ u r d. (queue_at u (queue_number c r 4 d)).count in
      ap (λ (s : Bool). answer_from c s t.cycle (counts (onto t b)) call) (sound_same c kept t exact b)
      ∙ unread c (sound c t) t.cycle (counts (onto t b)) (counts t) call (λ r d hr hd _.
      ap (λ (x : Queue). x.count) (queue_at_same c kept t exact b (queue_number c r 4 d) (queue_number_lt c r 4 d hr (omega arith) hd)))

  answer_same : (call : Call P) → answer_to c (lend e t) call ≡ answered c t (asked_by c e call)
  unfolding answered
  answer_same call =
      let k : Asked P = asked_by c e call in
      answer_of c (lend e t) call ∙ (ap (answered c (lend e t)) (asked_lent call)
      ∙ ⊎_elim (λ (h : long_enough c (lengths_of k) ≡ true). let b = covered call h in
      ap (λ (u : Tables P). answered c u k) b.1 ∙ same_onto b.0 k)
      (λ (h : long_enough c (lengths_of k) ≡ false). too_short c _ _ _ k h ∙ sym (too_short c _ _ _ k h))
      (cases_Bool (long_enough c (lengths_of k))))

  pub answer_asked : (happens c t e).answer ≡ answered c t (asked c e)
  unfolding happens asked
  answer_asked = outcome_answer c (lend e t) e.call ∙ answer_same e.call

  back_same : take_back t (lend e t) ≡ t
  unfolding take_back lend
  back_same = same_tables _ _ refl (back_lent e.queues t.queues) (back_lent e.places t.places)
      (back_lent e.payloads t.payloads) (back_lent e.words t.words)

  back_onto : (u b : Tables P) → Exact c u → take_back t (onto u b) ≡ u
  unfolding take_back
  back_onto u b x = same_tables _ _ refl
      (back_over t.queues u.queues b.queues (x.queue_table ∙ sym exact.queue_table))
      (back_over t.places u.places b.places (x.place_table ∙ sym exact.place_table))
      (back_over t.payloads u.payloads b.payloads (x.payload_table ∙ sym exact.payload_table))
      (back_over t.words u.words b.words (x.word_table ∙ sym exact.word_table))

  back_moved : (b : Tables P) (s : Moves P) (w : ℕ → ℕ) (cycle : ℕ) → ((q : ℕ) → q < queues c → s.word q ≡ w q)
      → take_back t (moved c s cycle (onto t b)) ≡ moved c (record { leaving = s.leaving; joining = s.joining; word = w }) cycle t
  back_moved b s w cycle h =
      ap (take_back t) (moved_same c kept t exact b s w cycle h) ∙ back_onto _ b (exact_moved c kept.depth_some t exact _ cycle)

  module _ (call : Call P) (n : ℕ) (h : answered c t (asked_by c e call) ≡ Ok n) where
    whole : Covered
    unfolding answered
    whole = covered call (accepted_long c _ _ _ (asked_by c e call) n h)

  tables_accepted : (call : Call P) (n : ℕ) → answered c t (asked_by c e call) ≡ Ok n
      → take_back t (accepted c (lend e t) call).tables ≡ then c t (asked_by c e call)
  unfolding accepted asked_by then if_accepted injection_moves
  tables_accepted (inject r d f x) n h =
      let b = whole (inject r d f x) n h in
      let q : ℕ = own_queue c r d in
      let y : Packet P = fresh t.cycle r f x in
      ap (λ (u : Tables P). take_back t (moved c (injection_moves u q (fresh u.cycle r f x)) u.cycle u)) b.1
      ∙ (back_moved b.0 (injection_moves (onto t b.0) q y) (λ j. get_or t.words j 0) t.cycle (word_same c kept t exact b.0)
      ∙ sym (ap (λ (a : Answer). if_accepted a (moved c (injection_moves t q y) t.cycle t) t) h))
  tables_accepted (room r d) n h = back_same
  tables_accepted (step ds gs) n h =
      let b = whole (step ds gs) n h in
      let s : Moves P = cycle_moves c (onto t b.0) in
      ap (λ (u : Tables P). take_back t (moved c (cycle_moves c u) (u.cycle + 1) u)) b.1
      ∙ (back_moved b.0 s s.word (t.cycle + 1) (λ j l. refl)
      ∙ (ap (λ (s : Moves P). moved c s (t.cycle + 1) t) (moves_same c kept t exact b.0)
      ∙ sym (ap (λ (a : Answer). if_accepted a (moved c (cycle_moves c t) (t.cycle + 1) t) t) h)))

  then_refused : (call : Asked P) (why : Refusal) → answered c t call ≡ Err why → then c t call ≡ t
  unfolding then if_accepted
  then_refused call why h = grind arith

  tables_same : (call : Call P) (a : Answer) → answered c t (asked_by c e call) ≡ a
      → take_back t (outcome c (lend e t) call).tables ≡ then c t (asked_by c e call)
  tables_same call (Ok n) h =
      ap (λ (o : Outcome P). take_back t o.tables) (when_accepted c (lend e t) call n (answer_same call ∙ h)) ∙ tables_accepted call n h
  tables_same call (Err why) h =
      ap (λ (o : Outcome P). take_back t o.tables) (when_refused c (lend e t) call why (answer_same call ∙ h))
      ∙ (ap (take_back t) (tables_unchanged c (lend e t) _ call) ∙ (back_same ∙ sym (then_refused (asked_by c e call) why h)))

  next_asked : next c t e ≡ then c t (asked c e)
  unfolding next happens asked
  next_asked = tables_same e.call _ refl

  handed_same : (b : Tables P) → handed_over c (onto t b) ≡ handed_over c t
  unfolding handed_over
  handed_same b = fun_ext (λ (r : ℕ).
      let o : ℕ = owner c r 4 t.cycle in
      ap (λ (v : View P). sends c o v r 4) (view_same c kept t exact b o (kept.owned r 4 t.cycle)))

  deliveries_long : (ds : List Delivery) (gs : List P) (n : ℕ) → answered c t (asked_by c e (step ds gs)) ≡ Ok n
      → (routers c ≤ length ds) × (routers c ≤ length gs)
  unfolding asked_by answered answer_from lent_lengths
  deliveries_long ds gs n h = accepted_deliveries c _ _ _ n h

  -- what an accepted call delivers to a domain
  told : ℕ → Asked P → List (Arrival P)
  told d (runs.inject l r n f x) = []
  told d (runs.room l r n) = []
  told d (runs.step l) = delivers c d (view c t d)

  told_accepted : (d : ℕ) (call : Call P) (n : ℕ) → answered c t (asked_by c e call) ≡ Ok n
      → marked t.cycle d 0 (take (routers c) (accepted c (lend e t) call).deliveries)
      (take (routers c) (accepted c (lend e t) call).delivered)
      ≡ told d (asked_by c e call)
  unfolding accepted asked_by marked told delivers view
  told_accepted d (inject r f g x) n h =
      ap (λ (l : List Delivery). marked t.cycle d 0 l (take (routers c) [])) (take-nil (routers c))
  told_accepted d (room r f) n h =
      ap (λ (l : List Delivery). marked t.cycle d 0 l (take (routers c) [])) (take-nil (routers c))
  told_accepted d (step ds gs) n h =
      let b = whole (step ds gs) n h in
      let R : ℕ = routers c in
      let l = deliveries_long ds gs n h in
      let shown : Tables P → (ℕ → List (Packet P)) → List (Arrival P) = λ u S.
      marked t.cycle d 0 (take R (edit 0 R (λ r _. record_of (owner c r 4 u.cycle) (S r)) ds))
      (take R (edit 0 R (λ r x. payload_beside (S r) x) gs)) in
      ap (λ (u : Tables P). shown u (handed_over c u)) b.1
      ∙ (ap (shown t) (handed_same b.0) ∙ records c t d 0 R ds gs l.0 l.1)

  told_own : (d : ℕ) (call : Asked P) → own_deliveries c d (view c t d) call ≡ if_accepted (own_answer c (view c t d) call) (told d call) []
  unfolding own_deliveries told if_accepted
  told_own d call = grind arith

  deliveries_same : (d : ℕ) (call : Call P) (a : Answer) → answered c t (asked_by c e call) ≡ a
      → deliveries c t.cycle d (outcome c (lend e t) call) ≡ if_accepted a (told d (asked_by c e call)) []
  unfolding deliveries if_accepted
  deliveries_same d call (Ok n) h =
      let w = answer_same call ∙ h in
      let shown : Outcome P → List (Arrival P) = λ o. marked t.cycle d 0 (take (routers c) o.deliveries)
      (take (routers c) o.delivered) in
      ap (deliveries c t.cycle d) (when_accepted c (lend e t) call n w)
      ∙ (ap (λ (a : Answer). if_accepted a (shown (accepted c (lend e t) call)) []) (answer_accepted c (lend e t) call ∙ w)
      ∙ told_accepted d call n h)
  deliveries_same d call (Err why) h =
      let o : Outcome P = outcome c (lend e t) call in
      ap (λ (a : Answer). if_accepted a (marked t.cycle d 0 (take (routers c) o.deliveries) (take (routers c) o.delivered)) [])
      (outcome_answer c (lend e t) call ∙ (answer_same call ∙ h))

-- what one call of a run is to the domain that it concerns
module _ {P : Type 0} (c : Machine) (kept : Kept c) (t : Tables P) (ok : Intact c t) (e : Event P) where
  pub next_intact : Intact c (next c t e)
  next_intact = subst (Intact c) (sym (next_asked c kept t ok.exact e)) (then_intact c kept t ok (asked c e))

  module _ (d : ℕ) (hd : d < domains c) where
    pub other_view : concerns d (asked c e) ≡ false → view c (next c t e) d ≡ view c t d
    other_view k = ap (λ (u : Tables P). view c u d) (next_asked c kept t ok.exact e) ∙ then_other c kept t ok d hd (asked c e) k

    module _ (k : concerns d (asked c e) ≡ true) where
      pub own_answered : (happens c t e).answer ≡ own_answer c (view c t d) (asked c e)
      own_answered = answer_asked c kept t ok.exact e ∙ answer_own c kept t ok d hd (asked c e) k

      pub own_view : view c (next c t e) d ≡ own_next c d (view c t d) (asked c e)
      own_view = ap (λ (u : Tables P). view c u d) (next_asked c kept t ok.exact e) ∙ then_own c kept t ok d hd (asked c e) k

      pub own_delivered : deliveries c t.cycle d (happens c t e) ≡ own_deliveries c d (view c t d) (asked c e)
      unfolding happens asked
      own_delivered =
          deliveries_same c kept t ok.exact e d e.call _ (answer_own c kept t ok d hd (asked c e) k)
          ∙ sym (told_own c kept t ok.exact e d (asked c e))
