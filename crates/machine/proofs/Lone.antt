-- A packet alone in its domain: it goes as soon as it is ready and its port's turn has come, and else waits.
use Rattle.std.proofs.Common.{◌≡◌, ℕ, zero, suc, ◌+◌, ◌<◌, ◌≤◌, true, false, ◌||◌, eqb, List, [], ◌∷◌, ◌++◌, map, length, sym, refl, ap, ◌∙◌, subst, ap₂, ⊎_elim, arith}
use Rattle.std.specs.List.{range_with_len, flat_map, Contains}
use Rattle.std.proofs.lemmas.List.{nil_from_length}
use Rattle.std.proofs.lemmas.List.Elements.{Contains-append_left, Contains-append_right}
use Rattle.std.proofs.lemmas.Bool.{false_from_ne_true, both_ways, and_parts, eqb-true, cases_eq, cond-false, cases_Bool}
use Rattle.machine.specs.Machine.{Machine, routers, towards, beyond, opposite, owner, depth, hop}
use Rattle.machine.specs.Packets.{Packet, View}
use Rattle.machine.specs.Cycle.{after, delivers, arrival, ready_at, sends, grants, leaves, joins, room, room_beyond, asks, stays}
use Rattle.machine.specs.Promise.{total}
use Rattle.machine.proofs.Totals.{total_le, total_two}
use Rattle.machine.proofs.QueueNumbers.{inside_from}
use Rattle.machine.proofs.Links.{beyond_back}
use Rattle.machine.proofs.Choices.{joins_from}
use Rattle.machine.proofs.Granted.{granted}
use Rattle.machine.proofs.Track.{AllOnWay, on_way_after, after_queue}
use Rattle.machine.proofs.Balance.{all_held, balance, leaves_by}
use Rattle.machine.proofs.Laws.{Lawful, distance}
use Rattle.machine.proofs.Sides.{some_asks}

-- where one is held, no other queue holds any
module _ {P : Type 0} (c : Machine) (v : View P) where
  pub queue_le : (a j : ℕ) → a < routers c → j < 5 → length (v.queue a j) ≤ all_held c v
  unfolding all_held
  queue_le a j ha hj = omega (
    arith,
    total_le 5 j (λ i. length (v.queue a i)) hj,
    total_le (routers c) a (λ r. total 5 (λ i. length (v.queue r i))) ha,
  )

  lone_only : all_held c v ≡ 1 → (a j b i : ℕ) → a < routers c → j < 5 → b < routers c → i < 5 → 0 < length (v.queue a j)
      → 0 < length (v.queue b i) → (a ≡ b) × (j ≡ i)
  unfolding all_held
  lone_only one a j b i ha hj hb hi ka kb =
      let G : ℕ → ℕ = λ r. total 5 (λ i. length (v.queue r i)) in
      let same : a ≡ b = grind (
        arith,
        total_two (routers c) a b G ha hb,
        total_le 5 j (λ i. length (v.queue a i)) hj,
        total_le 5 i (λ i. length (v.queue b i)) hi,
      ) in (
        same,
        grind (
          arith,
          total_le (routers c) b G hb,
          total_two 5 j i (λ i. length (v.queue b i)) hj hi,
          ap (λ (r : ℕ). length (v.queue r j)) same,
        ),
      )

in_joined : {X : Type 0} (x : X) (F : ℕ → List X) (a n k : ℕ) → a ≤ k → k < a + n → Contains (F k) x
    → Contains (flat_map F (range_with_len a n)) x
in_joined x F a zero k l h i = absurd (omega arith)
in_joined x F a (suc n) k l h i = ⊎_elim
    (λ (q : a ≡ k). Contains-append_left (F a) _ x (subst (λ (j : ℕ). Contains (F j) x) (sym q) i))
    (λ (q : a ≡ k → ⊥). Contains-append_right (F a) _ x (in_joined x F (a + 1) n k (omega arith) (omega arith) i))
    (cases_eq a k)

-- the packet from r to e with payload x is alone, and stands at a queue
pub record Lone {P : Type 0} (c : Machine) (d r e : ℕ) (x : P) (v : View P) : Type 0 where
  pub good : AllOnWay c v
  pub one : all_held c v ≡ 1
  pub at : ℕ
  pub side : ℕ
  pub low : at < routers c
  pub five : side < 5
  pub y : Packet P
  pub queue : v.queue at side ≡ y ∷ []
  pub destination : y.destination ≡ e
  pub source : y.source ≡ r
  pub payload : y.payload ≡ x

module _ {P : Type 0} (c : Machine) (laws : Lawful c) (depth_some : 0 < depth c) (d r e : ℕ) (he : e < routers c) (x : P) where
  -- the queue ahead is empty
  ahead_empty : (v : View P) (l : Lone c d r e x v) (s : ℕ) → beyond c l.at (towards c l.at e) ≡ s ∷ []
      → distance c s e + 1 ≡ distance c l.at e → v.queue s (opposite (towards c l.at e)) ≡ []
  ahead_empty v l s b h =
      let p : ℕ = towards c l.at e in
      let bb = beyond_back c l.at p s l.low b in
      nil_from_length _ (grind (
        arith,
        lone_only c v l.one s (opposite p) l.at l.side bb.0 (omega (arith, bb.3)) l.low l.five,
        ap length l.queue,
      ))

  -- it goes if the port's turn has come and it is ready
  lone_granted : (v : View P) (l : Lone c d r e x v) → owner c l.at (towards c l.at e) v.cycle ≡ d → l.y.ready ≤ v.cycle
      → grants c d v l.at (towards c l.at e) ≡ true
  unfolding grants asks room room_beyond
  lone_granted v l o k = grind (arith, some_asks c v l.at (towards c l.at e) l.side l.five its_turn, space)
    where
      its_turn : asks c v.cycle l.at (towards c l.at e) (v.queue l.at l.side) ≡ true
      its_turn = grind (arith, l.queue, l.destination)

      space : (eqb (towards c l.at e) 4 || room_beyond c v (towards c l.at e) (beyond c l.at (towards c l.at e))) ≡ true
      space = grind (arith, laws.arrived e he, laws.nearer l.at e l.low he, ahead_empty v l)

  lone_sent : (v : View P) (l : Lone c d r e x v) → grants c d v l.at (towards c l.at e) ≡ true
      → sends c d v l.at (towards c l.at e) ≡ l.y ∷ []
  lone_sent v l f =
      let g = granted c laws d v l.at (towards c l.at e) f in
      let w = (lone_only c v l.one l.at _ l.at l.side l.low g.side l.low l.five
      (omega (arith, ap length g.queue)) (omega (arith, ap length l.queue))).1 in
      grind (arith, g.queue, g.sends, w, l.queue)

  stays_none : (v : View P) (a j : ℕ) → v.queue a j ≡ [] → stays c d v a j ≡ []
  unfolding stays
  stays_none v a j q = grind arith

  -- it goes on
  lone_moves : (v : View P) (l : Lone c d r e x v) → (l.at ≡ e → ⊥) → owner c l.at (towards c l.at e) v.cycle ≡ d
      → l.y.ready ≤ v.cycle → Lone c d r e x (after c d v)
  unfolding ready_at
  lone_moves v l q o k =
      let p : ℕ = towards c l.at e in
      let n = laws.nearer l.at e l.low he q in
      let bb = beyond_back c l.at p n.0 l.low n.1 in
      let joined : joins c d v n.0 (opposite p) ≡ ready_at (v.cycle + hop c) l.y ∷ []
      = joins_from c d v n.0 (opposite p) l.at bb.1 ∙ ap (λ (a : ℕ). map (ready_at (v.cycle + hop c)) (sends c d v l.at a))
      bb.2 ∙ ap (map (ready_at (v.cycle + hop c))) (lone_sent v l (lone_granted v l o k)) in
      let there : (after c d v).queue n.0 (opposite p) ≡ ready_at (v.cycle + hop c) l.y ∷ []
      = after_queue c laws d v l.good n.0 (opposite p) (inside_from c n.0 (opposite p) bb.0 (omega (arith, bb.3)))
      ∙ ap₂ ◌++◌ (stays_none v n.0 (opposite p) (ahead_empty v l n.0 n.1 n.2)) joined in
      record {
        good = on_way_after c laws d v l.good;
        one = omega (
          arith,
          balance c laws d v l.good,
          queue_le c (after c d v) n.0 (opposite p) bb.0 (omega (arith, bb.3)),
          ap length there,
          l.one,
        );
        at = n.0;
        side = opposite p;
        low = bb.0;
        five = omega (arith, bb.3);
        y = ready_at (v.cycle + hop c) l.y;
        queue = there;
        destination = l.destination;
        source = l.source;
        payload = l.payload;
      }

  -- it waits
  lone_waits : (v : View P) (l : Lone c d r e x v) → (grants c d v l.at (towards c l.at e) ≡ true → ⊥) → Lone c d r e x (after c d v)
  unfolding stays
  lone_waits v l n =
      let unmoved : leaves c d v l.at l.side ≡ false =
      false_from_ne_true _ (λ q. n (rw l.destination at (leaves_by c laws d v l.good l.at l.side l.y [] l.queue q).0)) in
      let kept : stays c d v l.at l.side ≡ l.y ∷ [] = cond-false _ _ _ unmoved ∙ l.queue in
      let there : (after c d v).queue l.at l.side ≡ (l.y ∷ []) ++ joins c d v l.at l.side
      = after_queue c laws d v l.good l.at l.side (inside_from c l.at l.side l.low l.five)
      ∙ ap (λ (q : List (Packet P)). q ++ joins c d v l.at l.side) kept in
      let le = queue_le c (after c d v) l.at l.side l.low l.five in
      let more : joins c d v l.at l.side ≡ [] = nil_from_length _
      (omega (arith, balance c laws d v l.good, le, ap length there, l.one)) in
      record {
        good = on_way_after c laws d v l.good;
        one = omega (arith, balance c laws d v l.good, le, ap length there, l.one);
        at = l.at;
        side = l.side;
        low = l.low;
        five = l.five;
        y = l.y;
        queue = there ∙ ap (λ (q : List (Packet P)). l.y ∷ q) more;
        destination = l.destination;
        source = l.source;
        payload = l.payload;
      }

  lone_ripe : (v : View P) (l : Lone c d r e x v) → grants c d v l.at (towards c l.at e) ≡ true
      → (owner c l.at (towards c l.at e) v.cycle ≡ d) × (l.y.ready ≤ v.cycle)
  unfolding grants
  lone_ripe v l f =
      let g = granted c laws d v l.at (towards c l.at e) f in
      (eqb-true _ _ (and_parts _ _ f).0, grind (arith, g.ripe, g.sends, lone_sent v l f))

  here : (v : View P) (l : Lone c d r e x v) → l.at ≡ e → grants c d v l.at (towards c l.at e) ≡ true
      → Contains (delivers c d v) (record { cycle = v.cycle; router = e; source = r; payload = x })
  unfolding delivers arrival
  here v l q f =
      let o : sends c d v e 4 ≡ l.y ∷ [] = grind (arith, laws.arrived e he, lone_sent v l f) in
      in_joined _ (λ k. map (arrival v.cycle k) (sends c d v k 4)) 0 (routers c) e (omega arith) (omega arith)
      (rw o (0, omega arith, (λ i. record { cycle = v.cycle; router = e; source = l.source i; payload = l.payload i })))

  -- where it stands after a cycle: delivered, a hop on, or where it was
  pub record Onward (v : View P) (a when : ℕ) : Type 0 where
    pub lone : Lone c d r e x (after c d v)
    pub at : lone.at ≡ a
    pub ready : lone.y.ready ≡ when

  pub data Fate (v : View P) (l : Lone c d r e x v) : Type 0 where
    arrives : l.at ≡ e → owner c l.at (towards c l.at e) v.cycle ≡ d → l.y.ready ≤ v.cycle
        → Contains (delivers c d v) (record { cycle = v.cycle; router = e; source = r; payload = x }) → Fate v l
    goes_on : (s : ℕ) → owner c l.at (towards c l.at e) v.cycle ≡ d → l.y.ready ≤ v.cycle
        → beyond c l.at (towards c l.at e) ≡ s ∷ [] → distance c s e + 1 ≡ distance c l.at e → Onward v s (v.cycle + hop c)
        → Fate v l
    waits : (owner c l.at (towards c l.at e) v.cycle ≡ d → l.y.ready ≤ v.cycle → ⊥) → Onward v l.at l.y.ready → Fate v l

  pub fate : (v : View P) (l : Lone c d r e x v) → Fate v l
  unfolding lone_moves lone_waits ready_at
  fate v l = ⊎_elim
      (λ (f : grants c d v l.at (towards c l.at e) ≡ true).
      let o = lone_ripe v l f in
      ⊎_elim (λ (q : l.at ≡ e). arrives q o.0 o.1 (here v l q f))
      (λ (q : l.at ≡ e → ⊥).
      let n = laws.nearer l.at e l.low he q in
      goes_on n.0 o.0 o.1 n.1 n.2 (record { lone = lone_moves v l q o.0 o.1; at = refl; ready = refl }))
      (cases_eq l.at e))
      (λ (f : grants c d v l.at (towards c l.at e) ≡ false).
      waits (λ o k. both_ways _ f (lone_granted v l o k)) (record { lone = lone_waits v l (both_ways _ f); at = refl; ready = refl }))
      (cases_Bool (grants c d v l.at (towards c l.at e)))

  -- nothing is delivered while it is still held
  pub still_held : (v : View P) (l : Lone c d r e x v) → Lone c d r e x (after c d v) → delivers c d v ≡ []
  still_held v l l' = nil_from_length _ (omega (arith, balance c laws d v l.good, l.one, l'.one))
