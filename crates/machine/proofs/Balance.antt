-- What a domain held before a cycle is what it is given and holds after it; so nothing is lost over its calls.
use Rattle.std.proofs.Common.{◌≡◌, ℕ, zero, suc, ◌+◌, ◌<◌, Bool, true, false, cond, ◌&&◌, eqb, List, [], ◌∷◌, map, length, take, Ok, Err, sym, refl, ap, ◌∙◌, subst, ap₂, ⊎_elim, arith}
use Rattle.std.specs.List.{range_with_len, flat_map, AllByRecursion}
use Rattle.std.proofs.lemmas.List.{length-append, length-map}
use Rattle.std.proofs.lemmas.Bool.{both_ways, and_from, and_left, and_right, eq-eqb, ne_eqb, cond-true, cond-false, cases_Bool}
use Rattle.machine.specs.Machine.{Machine, routers, towards, beyond, opposite}
use Rattle.machine.specs.Packets.{Packet, View, Arrival}
use Rattle.machine.specs.Cycle.{after, delivers, arrival, sends, grants, winner, leaves, first_leaves, joins, room_beyond, stays}
use Rattle.machine.specs.Runs.{Asked, inject, room, step}
use Rattle.machine.specs.Calls.{Answer, Lengths, if_accepted, fresh}
use Rattle.machine.specs.Promise.{total, counted, count_in, count_out}
use Rattle.machine.proofs.Totals.{total_ext, total_add, total_none, total_one, total_swap, total_both, total_front}
use Rattle.machine.proofs.QueueNumbers.{inside_from}
use Rattle.machine.proofs.Links.{beyond_back, beyond_cases, beyond_low, beyond_own}
use Rattle.machine.proofs.Choices.{grants_beyond, joins_from, joins_none, leaves_some}
use Rattle.machine.proofs.Granted.{granted, goes, goes_stays}
use Rattle.machine.proofs.Track.{OnWay, AllOnWay, on_way_router, after_queue}
use Rattle.machine.proofs.OnWay.{on_way_next, on_way_none}
use Rattle.machine.proofs.OwnMachine.{answer_from, added, own_answer, own_next, own_deliveries, own_notes, own_run, nothing}
use Rattle.machine.proofs.Checks.{accepted_injection}
use Rattle.machine.proofs.Laws.{Lawful}

cond_nil : (b : Bool) (n : ℕ) → n ≡ 0 → cond b n 0 ≡ 0
cond_nil b n h = grind arith

is_first : List ℕ → ℕ → Bool
is_first [] r = false
is_first (x ∷ xs) r = eqb x r

-- all queues of a domain
unfoldable pub all_held : {P : Type 0} → Machine → View P → ℕ
all_held c u = total (routers c) (λ r. total 5 (λ i. length (u.queue r i)))

module _ {P : Type 0} (c : Machine) (laws : Lawful c) (d : ℕ) (v : View P) (good : AllOnWay c v) where
  -- by routers and ports: what leaves the sides of a router is what goes out by its ports
  row : ℕ → ℕ → ℕ → ℕ
  row r p i = cond (eqb (winner c v r p) i) (length (sends c d v r p)) 0

  none_out : (r p : ℕ) → grants c d v r p ≡ false → length (sends c d v r p) ≡ 0
  unfolding sends
  none_out r p f = ap length (cond-false _ _ _ f)

  row_port : (r p : ℕ) → total 5 (λ i. row r p i) ≡ length (sends c d v r p)
  unfolding row
  row_port r p = ⊎_elim
      (λ (f : grants c d v r p ≡ true).
      let w : ℕ = winner c v r p in
      total_one 5 w (λ i. row r p i) (granted c laws d v r p f).side (λ k l n. cond-false _ _ _ (ne_eqb w k (λ q. n (sym q))))
      ∙ cond-true _ _ _ (eq-eqb w w refl))
      (λ (f : grants c d v r p ≡ false). total_none 5 (λ i. row r p i) (λ k l. cond_nil _ _ (none_out r p f)) ∙ sym (none_out r p f))
      (cases_Bool (grants c d v r p))

  pub leaves_by : (r i : ℕ) (x : Packet P) (xs : List (Packet P)) → v.queue r i ≡ x ∷ xs → leaves c d v r i ≡ true
      → (grants c d v r (towards c r x.destination) ≡ true) × (winner c v r (towards c r x.destination) ≡ i)
  unfolding leaves first_leaves
  leaves_by r i x xs q l = grind arith

  way_low : (r i : ℕ) (x : Packet P) → OnWay c r i x → towards c r x.destination < 5
  way_low r i x f = grind (
    arith,
    laws.arrived x.destination f.destination,
    laws.nearer r x.destination (on_way_router c laws r i x f) f.destination,
    beyond_low c r,
  )

  -- a port's part in a side, but for one port
  row_nil : (r p i : ℕ) → (grants c d v r p ≡ true → winner c v r p ≡ i → ⊥) → row r p i ≡ 0
  unfolding row
  row_nil r p i h = grind (arith, none_out r p)

  row_side : (r i : ℕ) → total 5 (λ p. row r p i) ≡ length (goes c d v r i)
  unfolding row goes
  row_side r i = go (leaves c d v r i) refl (v.queue r i) refl
    where
      go : (b : Bool) → leaves c d v r i ≡ b → (q : List (Packet P)) → v.queue r i ≡ q → total 5 (λ p. row r p i) ≡ length (goes c d v r i)
      go true l [] q = absurd (omega (arith, leaves_some c d v r i l, ap length q))
      go true l (x ∷ xs) q =
          let a : AllByRecursion (OnWay c r i) (x ∷ xs) = subst (AllByRecursion (OnWay c r i)) q (good r i) in
          let w : ℕ = towards c r x.destination in
          let by = leaves_by r i x xs q l in
          let g = granted c laws d v r w by.0 in
          total_one 5 w (λ p. row r p i) (way_low r i x a.0)
          (λ k h n. row_nil r k i (λ f e. let g' = granted c laws d v r k f in grind (arith, g'.queue, g'.way)))
          ∙ cond-true _ _ _ (eq-eqb _ _ by.1) ∙ ap length g.sends ∙ sym (ap length (cond-true _ _ _ l ∙ ap (take 1) q))
      go false l xs q = total_none 5 (λ p. row r p i) (λ k h. row_nil r k i
          (λ f e. both_ways _ l (subst (λ (j : ℕ). leaves c d v r j ≡ true) e (granted c laws d v r k f).leaves)))
          ∙ sym (ap length (cond-false _ _ _ l))

  ports_sides : (r : ℕ) → total 5 (λ p. length (sends c d v r p)) ≡ total 5 (λ i. length (goes c d v r i))
  ports_sides r = total_both 5 5 (λ p i. row r p i) _ _ (λ p l. row_port r p) (λ i l. row_side r i)

  -- what goes out by a port joins the queue beside
  fed : ℕ → ℕ → ℕ → ℕ
  fed p s r = cond (is_first (beyond c s p) r) (length (sends c d v s p)) 0

  no_room : (s p : ℕ) → p < 4 → beyond c s p ≡ [] → length (sends c d v s p) ≡ 0
  unfolding room_beyond
  no_room s p h e = grind (arith, grants_beyond c d v s p h, none_out s p)

  fed_nil : (p s r : ℕ) → (beyond c s p ≡ r ∷ [] → ⊥) → fed p s r ≡ 0
  unfolding fed is_first
  fed_nil p s r n = grind (arith, beyond_cases c s p)

  fed_one : (p s r : ℕ) → beyond c s p ≡ r ∷ [] → fed p s r ≡ length (sends c d v s p)
  unfolding fed is_first
  fed_one p s r e = grind arith

  fed_port : (p s : ℕ) → p < 4 → s < routers c → total (routers c) (λ r. fed p s r) ≡ length (sends c d v s p)
  fed_port p s h hs = ⊎_elim
      (λ (e : beyond c s p ≡ []). total_none (routers c) (λ r. fed p s r)
      (λ r l. fed_nil p s r (λ w. cc)) ∙ sym (no_room s p h e))
      (λ (q : (x : ℕ) × (beyond c s p ≡ x ∷ [])).
      total_one (routers c) q.0 (λ r. fed p s r) (beyond_back c s p q.0 hs q.1).0
      (λ k l n. fed_nil p s k (λ w. n (cc (w, q.1)))) ∙ fed_one p s q.0 q.1)
      (beyond_cases c s p)

  fed_side : (p r : ℕ) → p < 4 → opposite (opposite p) ≡ p → r < routers c
      → total (routers c) (λ s. fed p s r) ≡ length (joins c d v r (opposite p))
  fed_side p r h o hr = ⊎_elim
      (λ (e : beyond c r (opposite p) ≡ []).
      total_none (routers c) (λ s. fed p s r)
      (λ s l. fed_nil p s r (λ w. cc (e, (beyond_back c s p r l w).1)))
      ∙ sym (ap length (joins_none c d v r (opposite p) e)))
      (λ (q : (x : ℕ) × (beyond c r (opposite p) ≡ x ∷ [])).
      let b = beyond_back c r (opposite p) q.0 hr q.1 in
      let e : beyond c q.0 p ≡ r ∷ [] = subst (λ (y : ℕ). beyond c q.0 y ≡ r ∷ []) o b.1 in
      total_one (routers c) q.0 (λ s. fed p s r) b.0 (λ k l n. fed_nil p k r
      (λ w. n (cc ((beyond_back c k p r l w).1, q.1))))
      ∙ fed_one p q.0 r e ∙ ap (λ (y : ℕ). length (sends c d v q.0 y)) (sym o)
      ∙ sym (ap length (joins_from c d v r (opposite p) q.0 q.1) ∙ length-map (sends c d v q.0 (opposite (opposite p))) _))
      (beyond_cases c r (opposite p))

  ports_queues : (p : ℕ) → p < 4 → opposite (opposite p) ≡ p → total (routers c) (λ r. length (sends c d v r p))
      ≡ total (routers c) (λ r. length (joins c d v r (opposite p)))
  ports_queues p h o = total_both (routers c) (routers c) (λ s r. fed p s r) _ _ (λ s l. fed_port p s h l) (λ r l. fed_side p r h o l)

  length_joined : (F : ℕ → List (Arrival P)) (a n : ℕ) → length (flat_map F (range_with_len a n)) ≡ total n (λ k. length (F (a + k)))
  unfolding total
  length_joined F a zero = refl
  length_joined F a (suc n) = length-append (F a) (flat_map F (range_with_len (a + 1) n))
      ∙ ap₂ ◌+◌ (ap (λ (k : ℕ). length (F k)) (omega arith)) (length_joined F (a + 1) n
      ∙ total_ext n _ _ (λ k l. ap (λ (k : ℕ). length (F k)) (omega arith)))
      ∙ sym (total_front n (λ k. length (F (a + k))))

  length_delivers : length (delivers c d v) ≡ total (routers c) (λ r. length (sends c d v r 4))
  unfolding delivers
  length_delivers = length_joined (λ r. map (arrival v.cycle r) (sends c d v r 4)) 0 (routers c)
      ∙ total_ext (routers c) _ _ (λ k l. length-map (sends c d v (0 + k) 4) _ ∙ ap (λ (k : ℕ). length (sends c d v k 4)) (omega arith))

  queue_parts : (r i : ℕ) → r < routers c → i < 5 → length (v.queue r i) + length (joins c d v r i)
      ≡ length (goes c d v r i) + length ((after c d v).queue r i)
  queue_parts r i hr hi =
      omega (
        arith,
        ap length (goes_stays c d v r i),
        length-append (goes c d v r i) (stays c d v r i),
        ap length (after_queue c laws d v good r i (inside_from c r i hr hi)),
        length-append (stays c d v r i) (joins c d v r i),
      )

  side_parts : (i : ℕ) → i < 5 → total (routers c) (λ r. length (v.queue r i)) + total (routers c) (λ r. length (joins c d v r i))
      ≡ total (routers c) (λ r. length (goes c d v r i)) + total (routers c) (λ r. length ((after c d v).queue r i))
  side_parts i hi = sym (total_add (routers c) (λ r. length (v.queue r i)) (λ r. length (joins c d v r i)))
      ∙ total_ext (routers c) _ _ (λ r hr. queue_parts r i hr hi) ∙ total_add (routers c) (λ r. length (goes c d v r i))
      (λ r. length ((after c d v).queue r i))

  goes_sends_all : total 5 (λ i. total (routers c) (λ r. length (goes c d v r i)))
      ≡ total 5 (λ p. total (routers c) (λ r. length (sends c d v r p)))
  goes_sends_all = sym (total_swap (routers c) 5 (λ r i. length (goes c d v r i)))
      ∙ total_ext (routers c) _ _ (λ r h. sym (ports_sides r)) ∙ total_swap (routers c) 5 (λ r p. length (sends c d v r p))

  pub balance : all_held c v ≡ length (delivers c d v) + all_held c (after c d v)
  unfolding all_held total opposite
  balance =
      let a : all_held c v ≡ total 5 (λ i. total (routers c) (λ r. length (v.queue r i))) =
      total_swap (routers c) 5 (λ r i. length (v.queue r i)) in
      let b : all_held c (after c d v) ≡ total 5 (λ i. total (routers c) (λ r. length ((after c d v).queue r i))) =
      total_swap (routers c) 5 (λ r i. length ((after c d v).queue r i)) in
      let s0 = side_parts 0 (omega arith) in
      let s1 = side_parts 1 (omega arith) in
      let s2 = side_parts 2 (omega arith) in
      let s3 = side_parts 3 (omega arith) in
      let s4 = side_parts 4 (omega arith) in
      let q0 = ports_queues 0 (omega arith) refl in
      let q1 = ports_queues 1 (omega arith) refl in
      let q2 = ports_queues 2 (omega arith) refl in
      let q3 = ports_queues 3 (omega arith) refl in
      let q4 : total (routers c) (λ r. length (joins c d v r 4)) ≡ 0 =
      total_none (routers c) _ (λ r l. ap length (joins_none c d v r 4 (beyond_own c r))) in
      let po = goes_sends_all in
      let g = length_delivers in
      omega arith

module _ {P : Type 0} (c : Machine) (v : View P) (r : ℕ) (x : Packet P) (hr : r < routers c) where
  one_more : (a i : ℕ) → a < routers c → i < 5 → length ((added c r x v).queue a i) ≡ length (v.queue a i) + cond (eqb a r && eqb i 4) 1 0
  unfolding added
  one_more a i ha hi =
      grind (arith, inside_from c a i ha hi, length-append (v.queue a i) (cond (eqb a r && eqb i 4) (x ∷ []) []))

  once : total (routers c) (λ a. total 5 (λ i. cond (eqb a r && eqb i 4) 1 0)) ≡ 1
  once = total_one (routers c) r _ hr (λ k l n. total_none 5 _ (λ i h. cond-false _ _ _ (and_left (eqb k r) (eqb i 4) (ne_eqb k r n))))
      ∙ total_one 5 4 _ (omega arith) (λ k l n. cond-false _ _ _ (and_right (eqb r r) (eqb k 4) (ne_eqb k 4 n)))
      ∙ cond-true _ _ _ (and_from (eqb r r) (eqb 4 4) (eq-eqb r r refl) refl)

  pub all_held_added : all_held c (added c r x v) ≡ all_held c v + 1
  unfolding all_held
  all_held_added = total_ext (routers c) _ _ (λ a ha. total_ext 5 _ _ (λ i hi. one_more a i ha hi)
      ∙ total_add 5 (λ i. length (v.queue a i)) (λ i. cond (eqb a r && eqb i 4) 1 0))
      ∙ total_add (routers c) (λ a. total 5 (λ i. length (v.queue a i))) (λ a. total 5 (λ i. cond (eqb a r && eqb i 4) 1 0))
      ∙ ap (λ (n : ℕ). total (routers c) (λ a. total 5 (λ i. length (v.queue a i))) + n) once

-- one call: what was held and is accepted is what is delivered and is held then
module _ {P : Type 0} (c : Machine) (laws : Lawful c) (d : ℕ) where
  one_injection : (v : View P) (l : Lengths) (r named f : ℕ) (x : P) (a : Answer) → own_answer c v (inject l r named f x) ≡ a
      → all_held c v + counted (inject l r named f x) a ≡ all_held c (if_accepted a (added c r (fresh v.cycle r f x) v) v)
  unfolding if_accepted counted own_answer answer_from
  one_injection v l r named f x (Ok k) h =
      sym (all_held_added c v r (fresh v.cycle r f x) (accepted_injection c true l r named f _ _ k h).0)
  one_injection v l r named f x (Err why) h = omega arith

  one_step : (v : View P) → AllOnWay c v → (a : Answer)
      → all_held c v + 0 ≡ length (if_accepted a (delivers c d v) []) + all_held c (if_accepted a (after c d v) v)
  unfolding if_accepted
  one_step v good (Ok k) = omega (arith, balance c laws d v good)
  one_step v good (Err why) = omega arith

  one_call : (v : View P) → AllOnWay c v → (call : Asked P)
      → all_held c v + counted call (own_answer c v call) ≡ length (own_deliveries c d v call) + all_held c (own_next c d v call)
  unfolding own_next own_deliveries counted
  one_call v good (inject l r named f x) = omega (arith, one_injection v l r named f x (own_answer c v (inject l r named f x)) refl)
  one_call v good (room l r named) = omega arith
  one_call v good (step l) = one_step v good (own_answer c v (step l))

  run_balance : (v : View P) → AllOnWay c v → (calls : List (Asked P))
      → all_held c v + count_in (own_notes c d v calls) ≡ count_out (own_notes c d v calls) + all_held c (own_run c d v calls)
  unfolding own_notes own_run count_in count_out
  run_balance v good [] = omega arith
  run_balance v good (call ∷ calls) =
      omega (arith, one_call v good call, run_balance (own_next c d v call) (on_way_next c laws d v good call) calls)

none_held : (P : Type 0) (c : Machine) → all_held {P = P} c nothing ≡ 0
unfolding all_held nothing
none_held P c = total_none (routers c) _ (λ r h. total_none 5 _ (λ i l. refl))

pub own_balance : {P : Type 0} (c : Machine) → Lawful c → (d : ℕ) (calls : List (Asked P))
    → count_in (own_notes c d nothing calls) ≡ count_out (own_notes c d nothing calls) + all_held c (own_run c d nothing calls)
own_balance {P} c laws d calls = omega (arith, run_balance c laws d nothing (on_way_none P c) calls, none_held P c)
