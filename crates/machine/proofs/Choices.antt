-- What the choices of a cycle keep to, for any view.
use Rattle.std.proofs.Common.{◌≡◌, ℕ, ◌+◌, ◌-◌, ◌<◌, ◌≤◌, true, [], ◌∷◌, map, length, ap, ◌∙◌, ⊎_elim, arith, Bool, false, cond, List, take, refl}
use Rattle.std.specs.List.{AllByRecursion}
use Rattle.std.proofs.lemmas.List.{length-take, length-map, append-nil}
use Rattle.std.proofs.ByRecursion.{All-take, All-map, All-weaker}
use Rattle.std.proofs.lemmas.Bool.{cond_both}
use Rattle.machine.specs.Machine.{Machine, routers, beyond, opposite, depth, hop}
use Rattle.machine.specs.Packets.{Packet, View}
use Rattle.machine.specs.Cycle.{first_leaves, leaves, sends, joins, ready_at, grants, room, room_beyond, winner}
use Rattle.machine.proofs.Links.{beyond_back, beyond_cases}

-- a held packet keeps to its limits
pub record InLimits {P : Type 0} (c : Machine) (t : ℕ) (x : Packet P) : Type 0 where
  pub destination : x.destination < routers c
  pub source : x.source < routers c
  pub ready : x.ready ≤ t + hop c - 1

module _ {P : Type 0} (c : Machine) (d : ℕ) (v : View P) where
  first_some : (r i : ℕ) (xs : List (Packet P)) → first_leaves c d v r i xs ≡ true → 0 < length xs
  unfolding first_leaves
  first_some r i [] e = absurd cc
  first_some r i (x ∷ xs) e = omega arith

  pub leaves_some : (r i : ℕ) → leaves c d v r i ≡ true → 0 < length (v.queue r i)
  unfolding leaves first_leaves
  leaves_some r i e = grind arith

  cond_take : (b : Bool) (xs : List (Packet P)) → length (cond b (take 1 xs) []) ≤ 1
  cond_take true xs = omega (arith, length-take 1 xs)
  cond_take false xs = omega arith

  pub sends_one : (r p : ℕ) → length (sends c d v r p) ≤ 1
  unfolding sends
  sends_one r p = grind (arith, length-take 1 (v.queue r (winner c v r p)))

  cond_some : (b : Bool) (xs : List (Packet P)) → 0 < length (cond b xs []) → b ≡ true
  cond_some true xs h = refl
  cond_some false xs h = absurd (omega arith)

  sends_grants : (r p : ℕ) → 0 < length (sends c d v r p) → grants c d v r p ≡ true
  unfolding sends
  sends_grants r p h = grind arith

  -- a port that leads to a neighbour and grants has room there
  pub grants_beyond : (s p : ℕ) → p < 4 → grants c d v s p ≡ true → room_beyond c v p (beyond c s p) ≡ true
  unfolding grants room
  grants_beyond s p h f = grind arith

  grants_room : (s p r : ℕ) → p < 4 → beyond c s p ≡ r ∷ [] → grants c d v s p ≡ true → length (v.queue r (opposite p)) < depth c
  unfolding room_beyond
  grants_room s p r h e f = grind (arith, grants_beyond s p h f)

  pub joins_from : (r i s : ℕ) → beyond c r i ≡ s ∷ [] → joins c d v r i ≡ map (ready_at (v.cycle + hop c)) (sends c d v s (opposite i))
  unfolding joins
  joins_from r i s e = rw e (ap (map (ready_at (v.cycle + hop c))) (append-nil _))

  pub joins_none : (r i : ℕ) → beyond c r i ≡ [] → joins c d v r i ≡ []
  unfolding joins
  joins_none r i e = rw e

  length_joins : (r i s : ℕ) → beyond c r i ≡ s ∷ [] → length (joins c d v r i) ≡ length (sends c d v s (opposite i))
  length_joins r i s e = ap length (joins_from r i s e) ∙ length-map _ _

  pub joins_one : (r i : ℕ) → length (joins c d v r i) ≤ 1
  joins_one r i = ⊎_elim (λ (e : beyond c r i ≡ []). omega (arith, ap length (joins_none r i e)))
      (λ (p : (s : ℕ) × (beyond c r i ≡ s ∷ [])). omega (arith, length_joins r i p.0 p.1, sends_one p.0 (opposite i)))
      (beyond_cases c r i)

  pub joins_fit : (r i : ℕ) → r < routers c → 0 < length (joins c d v r i) → length (v.queue r i) < depth c
  joins_fit r i h k = ⊎_elim (λ (e : beyond c r i ≡ []). absurd (omega (arith, ap length (joins_none r i e))))
      (λ (p : (s : ℕ) × (beyond c r i ≡ s ∷ [])).
      let b = beyond_back c r i p.0 h p.1 in
      let sent = length_joins r i p.0 p.1 in
      grind (arith, sent, sends_grants p.0 (opposite i), grants_room p.0 (opposite i) r b.3 b.1, b.2))
      (beyond_cases c r i)

  cond_all : (Q : Packet P → Type 0) (b : Bool) (xs : List (Packet P)) → AllByRecursion Q xs → AllByRecursion Q (cond b (take 1 xs) [])
  cond_all Q true xs a = All-take Q 1 xs a
  cond_all Q false xs a = tt

  sends_all : (Q : Packet P → Type 0) → ((r i : ℕ) → AllByRecursion Q (v.queue r i)) → (r p : ℕ) → AllByRecursion Q (sends c d v r p)
  unfolding sends
  sends_all Q a r p = cond_both (grants c d v r p) _ [] (AllByRecursion Q) (λ _. All-take Q 1 _ (a r (winner c v r p))) (λ _. tt)

  pub joins_ok : 0 < hop c → ((r i : ℕ) → AllByRecursion (InLimits c v.cycle) (v.queue r i)) → (r i : ℕ)
      → AllByRecursion (InLimits c (v.cycle + 1)) (joins c d v r i)
  unfolding ready_at
  joins_ok hop_some a r i = ⊎_elim (λ (e : beyond c r i ≡ []). rw (joins_none r i e) tt)
      (λ (p : (s : ℕ) × (beyond c r i ≡ s ∷ [])).
      rw (joins_from r i p.0 p.1) (All-map (InLimits c (v.cycle + 1)) (ready_at (v.cycle + hop c)) (sends c d v p.0 (opposite i))
      (All-weaker _ _ (λ x o. record { destination = o.destination; source = o.source; ready = omega arith }) _
      (sends_all (InLimits c v.cycle) a p.0 (opposite i)))))
      (beyond_cases c r i)
