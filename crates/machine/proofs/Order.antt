-- What is underway from a source to a destination is what was accepted and has not come home, in that order.
use Rattle.std.proofs.Common.{◌≡◌, ℕ, zero, suc, ◌+◌, ◌<◌, ◌≤◌, Bool, true, false, cond, ◌&&◌, eqb, List, [], ◌∷◌, ◌++◌, map, Ok, Err, sym, refl, ap, ◌∙◌, subst, ap₂, arith}
use Rattle.std.specs.List.{range_with_len, flat_map, AllByRecursion}
use Rattle.std.proofs.lemmas.List.{append_assoc, append-nil}
use Rattle.std.proofs.lemmas.Bool.{ne_eqb}
use Rattle.machine.specs.Machine.{Machine, routers}
use Rattle.machine.specs.Packets.{Packet, View, Arrival}
use Rattle.machine.specs.Cycle.{after, delivers, arrival, sends, grants, winner}
use Rattle.machine.specs.Runs.{Asked, inject, room, step}
use Rattle.machine.specs.Calls.{Answer, Lengths, if_accepted, fresh}
use Rattle.machine.specs.Promise.{brought, came, payloads_in, payloads_out}
use Rattle.machine.proofs.QueueNumbers.{inside_from}
use Rattle.machine.proofs.Granted.{granted, between, flow, flow_append}
use Rattle.machine.proofs.Track.{track, next_track, OnWay, AllOnWay, underway, underway_step}
use Rattle.machine.proofs.OwnMachine.{added, own_answer, own_next, own_deliveries, own_notes, own_run, nothing}
use Rattle.machine.proofs.OnWay.{on_way_next, on_way_none}
use Rattle.machine.proofs.Laws.{Lawful, distance}

module _ {P : Type 0} (c : Machine) (laws : Lawful c) (s e : ℕ) (hs : s < routers c) (he : e < routers c) where
  came_append : (xs ys : List (Arrival P)) → came s e (xs ++ ys) ≡ came s e xs ++ came s e ys
  unfolding came
  came_append [] ys = refl
  came_append (x ∷ xs) ys = grind (arith, append_assoc, came_append xs ys)

  -- of a step's deliveries those at e
  module _ (d : ℕ) (v : View P) (good : AllOnWay c v) where
    at_other : (r : ℕ) (xs : List (Packet P)) → eqb r e ≡ false → came s e (map (arrival v.cycle r) xs) ≡ []
    unfolding came arrival
    at_other r [] h = refl
    at_other r (x ∷ xs) h = grind (arith, at_other r xs h)

    home_as : (x : Packet P) → x.destination ≡ e → came s e (map (arrival v.cycle e) (x ∷ [])) ≡ flow s e (x ∷ [])
    unfolding came flow arrival between
    home_as x h = grind arith

    at_home : came s e (map (arrival v.cycle e) (sends c d v e 4)) ≡ flow s e (sends c d v e 4)
    unfolding sends came flow
    at_home = go (grants c d v e 4) refl
      where
        go : (f : Bool) → grants c d v e 4 ≡ f → came s e (map (arrival v.cycle e) (sends c d v e 4)) ≡ flow s e (sends c d v e 4)
        go true f =
            let g = granted c laws d v e 4 f in
            let a : AllByRecursion (OnWay c e (winner c v e 4)) (g.x ∷ g.xs) =
            subst (AllByRecursion (OnWay c e (winner c v e 4))) g.queue (good e (winner c v e 4)) in
            rw g.sends (home_as g.x (sym (laws.only_arrived e g.x.destination he a.0.destination g.way)))
        go false f = rw f

    here : ℕ → List (Arrival P)
    here r = map (arrival v.cycle r) (sends c d v r 4)

    past : (a n : ℕ) → e < a → came s e (flat_map here (range_with_len a n)) ≡ []
    unfolding came here
    past a zero h = refl
    past a (suc n) h = came_append (here a) (flat_map here (range_with_len (a + 1) n))
        ∙ ap₂ ◌++◌ (at_other a _ (ne_eqb a e (λ q. omega arith))) (past (a + 1) n (omega arith))

    from_on : (a n : ℕ) → a ≤ e → e < a + n → came s e (flat_map here (range_with_len a n)) ≡ flow s e (sends c d v e 4)
    unfolding here
    from_on a zero l h = absurd (omega arith)
    from_on a (suc n) l h = grind (
      arith,
      append-nil,
      came_append (here a) (flat_map here (range_with_len (a + 1) n)),
      at_home,
      at_other a (sends c d v a 4),
      past (a + 1) n,
      from_on (a + 1) n,
    )

    came_delivers : came s e (delivers c d v) ≡ flow s e (sends c d v e 4)
    unfolding delivers here
    came_delivers = from_on 0 (routers c) (omega arith) (omega arith)

  -- an injection comes in at the end of what is underway
  module _ (v : View P) (r f : ℕ) (x : P) where
    new_flow : flow s e (cond (eqb s r && eqb 4 4) (fresh v.cycle r f x ∷ []) []) ≡ cond (eqb r s && eqb f e) (x ∷ []) []
    unfolding flow between fresh
    new_flow = grind (arith, append-nil)

    underway_added : (k : ℕ) → k ≤ distance c s e → underway c s e (added c r (fresh v.cycle r f x) v) k
        ≡ underway c s e v k ++ cond (eqb r s && eqb f e) (x ∷ []) []
    unfolding underway added
    underway_added zero h = grind (
      arith,
      inside_from c s 4 hs (omega arith),
      flow_append s e (v.queue s 4) (cond (eqb s r && eqb 4 4) (fresh v.cycle r f x ∷ []) []),
      new_flow,
    )
    underway_added (suc k) h =
        let n = next_track c laws s e hs he k (omega arith) in
        let low = n.side in
        let in_mesh = inside_from c (track c s e (suc k)).0 (track c s e (suc k)).1 n.router (omega (arith, n.side)) in
        grind (arith, append_assoc, append-nil, in_mesh, low, underway_added k (omega arith))

  -- one call: what was underway and is brought in is what comes home and is underway then
  module _ (d : ℕ) where
    abbrev queued : View P → List P
    queued v = underway c s e v (distance c s e)

    one_injection : (v : View P) (l : Lengths) (r named f : ℕ) (x : P) (a : Answer)
        → queued v ++ brought s e (inject l r named f x) a
        ≡ queued (if_accepted a (added c r (fresh v.cycle r f x) v) v)
    unfolding if_accepted brought
    one_injection v l r named f x (Ok k) = sym (underway_added v r f x (distance c s e) (omega arith))
    one_injection v l r named f x (Err why) = append-nil _

    one_step : (v : View P) → AllOnWay c v → (a : Answer)
        → queued v ++ [] ≡ came s e (if_accepted a (delivers c d v) []) ++ queued (if_accepted a (after c d v) v)
    unfolding if_accepted came
    one_step v good (Ok k) = grind (arith, append-nil, underway_step c laws d v good s e hs he, came_delivers d v good)
    one_step v good (Err why) = append-nil _

    one_call : (v : View P) → AllOnWay c v → (call : Asked P)
        → queued v ++ brought s e call (own_answer c v call) ≡ came s e (own_deliveries c d v call) ++ queued (own_next c d v call)
    unfolding own_next own_deliveries brought came
    one_call v good (inject l r named f x) = one_injection v l r named f x (own_answer c v (inject l r named f x))
    one_call v good (room l r named) = append-nil _
    one_call v good (step l) = one_step v good (own_answer c v (step l))

    order_run : (v : View P) → AllOnWay c v → (calls : List (Asked P))
        → queued v ++ payloads_in s e (own_notes c d v calls)
        ≡ payloads_out s e (own_notes c d v calls) ++ queued (own_run c d v calls)
    unfolding own_notes own_run payloads_in payloads_out
    order_run v good [] = append-nil _
    order_run v good (call ∷ calls) =
        let after : View P = own_next c d v call in
        grind (arith, append_assoc, one_call v good call, order_run after (on_way_next c laws d v good call) calls)

underway_none : {P : Type 0} (c : Machine) (s e k : ℕ) → underway {P = P} c s e nothing k ≡ []
unfolding underway nothing flow
underway_none c s e zero = refl
underway_none {P} c s e (suc k) = underway_none {P = P} c s e k

-- what comes out is the front of what went in
pub own_order : {P : Type 0} (c : Machine) → Lawful c → (d s e : ℕ) → s < routers c → e < routers c → (calls : List (Asked P))
    → (rest : List P)
    × (payloads_in s e (own_notes c d nothing calls) ≡ payloads_out s e (own_notes c d nothing calls) ++ rest)
own_order {P} c laws d s e hs he calls =
    let n : ℕ = distance c s e in (
      underway c s e (own_run c d nothing calls) n,
      ap (λ (l : List P). l ++ payloads_in s e (own_notes c d nothing calls)) (sym (underway_none c s e n))
          ∙ order_run c laws s e hs he d nothing (on_way_none P c) calls,
    )
