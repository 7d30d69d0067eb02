-- Tables that are sound stay so through every move of a cycle and of an injection.
use Rattle.std.proofs.Common.{◌≡◌, ℕ, zero, suc, ◌+◌, ◌-◌, ◌<◌, ◌≤◌, Bool, true, cond, eqb, List, [], ◌∷◌, length, drop, refl, ap, ◌∙◌, arith, false}
use Rattle.std.specs.List.{AllByRecursion}
use Rattle.std.proofs.ByRecursion.{All-drop, All-weaker, All-append}
use Rattle.std.proofs.lemmas.Bool.{cond_both, and_from, lt-ltb, le-leb, eqb-true}
use Rattle.machine.specs.Cycle.{bit}
use Rattle.machine.specs.Machine.{Machine, depth, domains, inside, queues}
use Rattle.machine.specs.Moves.{Moves, moved, queue_after, cycle_moves, injection_moves, domain_of, side_of, router_of}
use Rattle.machine.specs.Packets.{Packet}
use Rattle.machine.specs.Tables.{Tables, queue_at, packets, view, sound_packet, sound_packets, sound_queue, all_below, sound}
use Rattle.machine.proofs.Choices.{InLimits, leaves_some, joins_one, joins_fit, joins_ok}
use Rattle.machine.proofs.Laws.{Kept}
use Rattle.machine.proofs.Moved.{Exact, Can, exact_moved, record_moved, packets_moved, length_packets}
use Rattle.machine.proofs.QueueNumbers.{number_inside, inside_from, queue_number_of, domain_lt, side_lt, router_lt}
use Rattle.machine.proofs.Ring.{ring_first}
use Rattle.machine.proofs.Views.{queue_in}

pub record SoundQueue {P : Type 0} (c : Machine) (t : Tables P) (q : ℕ) : Type 0 where
  pub first : (queue_at t q).first < depth c
  pub count : (queue_at t q).count ≤ depth c
  pub within : AllByRecursion (InLimits c t.cycle) (packets c t q)

-- tables of just the needed lengths with every queue sound
pub record Intact {P : Type 0} (c : Machine) (t : Tables P) : Type 0 where
  pub exact : Exact c t
  pub queue : (q : ℕ) → q < queues c → SoundQueue c t q

all_below_from : (f : ℕ → Bool) (n : ℕ) → ((k : ℕ) → k < n → f k ≡ true) → all_below f n ≡ true
unfolding all_below
all_below_from f zero h = refl
all_below_from f (suc n) h = and_from _ _ (h n (omega arith)) (all_below_from f n (λ k l. h k (omega arith)))

packets_pass : {P : Type 0} (c : Machine) (cycle : ℕ) (xs : List (Packet P)) → AllByRecursion (InLimits c cycle) xs → sound_packets c cycle xs ≡ true
unfolding sound_packets sound_packet
packets_pass c cycle [] a = refl
packets_pass c cycle (x ∷ xs) a = let o = a.0 in grind (arith, packets_pass c cycle xs a.1)

-- the test says so
pub sound_from : {P : Type 0} (c : Machine) (t : Tables P) → Intact c t → sound c t ≡ true
unfolding sound sound_queue
sound_from c t ok = all_below_from (sound_queue c t) (queues c) (λ q h.
    let s = ok.queue q h in
    and_from _ _ (lt-ltb _ _ s.first) (and_from _ _ (le-leb _ _ s.count) (packets_pass c _ _ s.within)))

count_fits : (b n k : ℕ) (leaving : Bool) → k ≤ 1 → (0 < k → n < b) → n ≤ b → n - bit leaving 1 + k ≤ b
unfolding bit
count_fits b n k leaving h f l = grind arith

module _ {P : Type 0} (c : Machine) (kept : Kept c) (t : Tables P) (ok : Intact c t) where
  view_within : (d : ℕ) → d < domains c → (r i : ℕ) → AllByRecursion (InLimits c t.cycle) ((view c t d).queue r i)
  unfolding view
  view_within d hd r i =
      cond_both (inside c r i) _ [] (AllByRecursion (InLimits c t.cycle))
      (λ e. (ok.queue _ (number_inside c r i d e hd)).within) (λ _. tt)

  later : (cycle q : ℕ) → t.cycle ≤ cycle → (leaving : Bool) → AllByRecursion (InLimits c t.cycle) (packets c t q)
      → AllByRecursion (InLimits c cycle) (cond leaving (drop 1 (packets c t q)) (packets c t q))
  later cycle q le leaving a =
      let all : AllByRecursion (InLimits c cycle) (packets c t q) =
      All-weaker _ _ (λ x o. record { destination = o.destination; source = o.source; ready = omega (arith, o.ready) }) _ a in
      cond_both leaving _ _ (AllByRecursion (InLimits c cycle)) (λ _. All-drop _ 1 _ all) (λ _. all)

  -- after any possible moves
  intact_moved : (s : Moves P) (cycle : ℕ) → t.cycle ≤ cycle → ((q : ℕ) → q < queues c → Can c s t q)
      → ((q : ℕ) → q < queues c → AllByRecursion (InLimits c cycle) (s.joining q)) → Intact c (moved c s cycle t)
  unfolding queue_after moved
  intact_moved s cycle le can on = record {
    exact = exact_moved c kept.depth_some t ok.exact s cycle;
    queue = λ q h.
        (let r = record_moved c kept.depth_some t ok.exact s cycle q h in
        let m = can q h in
        record {
          first = rw r (ring_first (depth c) (queue_at t q).first (s.leaving q) m.first);
          count = rw r (count_fits (depth c) (queue_at t q).count (length (s.joining q)) (s.leaving q) m.one m.fits m.count);
          within = rw (packets_moved c kept.depth_some t ok.exact s cycle q h m)
              (All-append _ _ _ (later cycle q le (s.leaving q) (ok.queue q h).within) (on q h));
        });
  }

  -- a cycle's moves are possible
  count_here : (q : ℕ) → q < queues c → length ((view c t (domain_of c q)).queue (router_of c q) (side_of c q)) ≡ (queue_at t q).count
  count_here q h =
      ap length (queue_in c t _ _ _ (inside_from c _ _ (router_lt c q h) (side_lt c q h)) ∙ ap (packets c t) (queue_number_of c q h))
      ∙ length_packets c kept.depth_some t ok.exact q h

  pub can_cycle : (q : ℕ) → q < queues c → Can c (cycle_moves c t) t q
  unfolding cycle_moves
  can_cycle q h = record {
    first = (ok.queue q h).first;
    count = (ok.queue q h).count;
    leaving = λ e. omega (arith, leaves_some c _ _ _ _ e, count_here q h);
    one = joins_one c _ _ _ _;
    fits = λ k. omega (arith, joins_fit c _ _ _ _ (router_lt c q h) k, count_here q h);
  }

  pub intact_cycle : Intact c (moved c (cycle_moves c t) (t.cycle + 1) t)
  unfolding cycle_moves view
  intact_cycle =
      intact_moved (cycle_moves c t) (t.cycle + 1) (omega arith) can_cycle
      (λ q h. joins_ok c _ _ kept.hop_some (view_within _ (domain_lt c q h)) _ _)

  -- an injection's too
  module _ (q : ℕ) (x : Packet P) (full : (queue_at t q).count < depth c) where
    one_if : (b : Bool) → length (cond b (x ∷ []) []) ≤ 1
    one_if true = omega arith
    one_if false = omega arith

    only_if : (b : Bool) → 0 < length (cond b (x ∷ []) []) → b ≡ true
    only_if true h = refl
    only_if false h = absurd (omega arith)

    pub can_inject : (k : ℕ) → k < queues c → Can c (injection_moves t q x) t k
    unfolding injection_moves
    can_inject k h = record {
      first = (ok.queue k h).first;
      count = (ok.queue k h).count;
      leaving = λ e. cc;
      one = grind arith;
      fits = λ l. let e : eqb k q ≡ true = grind arith in rw (eqb-true k q e) full;
    }

    pub intact_inject : InLimits c t.cycle x → Intact c (moved c (injection_moves t q x) t.cycle t)
    unfolding injection_moves
    intact_inject o = intact_moved (injection_moves t q x) t.cycle (omega arith) can_inject (λ k h. cond_both (eqb k q) _ [] (AllByRecursion (InLimits c t.cycle)) (λ _. (o, tt)) (λ _. tt))
