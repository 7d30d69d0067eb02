-- What leaves and joins each queue by the moves is what leaves and joins it on the machine.
use Rattle.std.proofs.Common.{◌≡◌, ℕ, zero, suc, ◌+◌, ◌*◌, ◌/◌, ◌%◌, ◌<◌, ◌≤◌, true, false, ◌&&◌, eqb, ltb, ◌⊎◌, List, [], ◌∷◌, ◌++◌, map, get_or, Some, None, Option, sym, refl, ap, ◌∙◌, subst, inl, inr, ⊎_elim, arith, unwrap_or}
use lib.Arith.{digits_div, digits_mod}
use Rattle.std.specs.List.{flat_map}
use Rattle.std.specs.Option.{option_to_list}
use Rattle.std.proofs.lemmas.Nat.{div-add-mod', mod_below}
use Rattle.std.proofs.lemmas.Bool.{and_from, and_parts, cases_Bool, cases_lt, eq-eqb, eqb-true, ltb-true, ne_eqb, true≢false}
use Rattle.schedule.specs.declared.geometry.Position.{Position}
use Rattle.schedule.specs.declared.plan.Plan.{Plan}
use Rattle.schedule.specs.Mesh.{neighbour_of, position_of}
use Rattle.machine.specs.Cycle.{asking, first_leaves, grants, joins, leaves, ready_at, room, room_beyond, sends, winner}
use Rattle.machine.specs.Machine.{Machine, machine, beyond, hop, opposite, owner, towards, width}
use Rattle.machine.specs.Packets.{Packet}
use Rattle.machine.specs.Tables.{Tables, packets, place_at, queue_at, view}
use Rattle.mesh.specs.declared.moves.Move.{Move}
use Rattle.mesh.specs.After.{arriving, arriving_by, leaving, passing}
use Rattle.mesh.specs.Heads.{Outset, outset, asks, head_side, no_place, ports, queue_count}
use Rattle.mesh.specs.Heads as heads
use Rattle.mesh.specs.Orderly as orders
use Rattle.mesh.specs.Ports.{across, across_to, move_at, no_move}
use Rattle.mesh.proofs.Across.{neighbour_back}
use Rattle.mesh.proofs.Cases.{bool_same}
use Rattle.mesh.proofs.Clear.{made}
use Rattle.mesh.proofs.Cut.{taken}
use Rattle.mesh.proofs.Cut as cut
use Rattle.mesh.proofs.Granted.{Lent, view_queue}
use Rattle.mesh.proofs.Index.{port_in, queue_port_in, router_in}
use Rattle.mesh.proofs.Packets.{first_index, packet, packets_none, packets_some}
use Rattle.mesh.proofs.Sent.{Lawful, choice_is, granted_move, passed_by, passing_grants, sent, unsent}

module _ {P : Type 0} (plan : Plan) (choose : ℕ → ℕ → ℕ × ℕ) (route : Position → Position → ℕ) (t : Tables P) (lent : Lent plan t)
    (lawful : Lawful choose) where
  abbrev m : Machine
  m = machine plan choose route

  abbrev v : Outset
  v = outset plan route t.cycle t.queues t.places

  abbrev ms : List (Option Move)
  ms = made v choose t.words

  abbrev D : ℕ
  D = plan.sizes.domains

  -- a port beyond the five grants nothing: there is no room
  no_room : (d r p : ℕ) → 5 ≤ p → room m (view m t d) r p ≡ false
  unfolding room beyond room_beyond
  no_room d r zero h = absurd (omega arith)
  no_room d r (suc zero) h = absurd (omega arith)
  no_room d r (suc (suc zero)) h = absurd (omega arith)
  no_room d r (suc (suc (suc zero))) h = absurd (omega arith)
  no_room d r (suc (suc (suc (suc p)))) h = let e = ne_eqb (suc (suc (suc (suc p)))) 4 (λ s. omega arith) in rw e refl

  grants_port : (d r p : ℕ) → grants m d (view m t d) r p ≡ true → p < 5
  unfolding grants
  grants_port d r p g =
      let own = eqb (owner m r p (view m t d).cycle) d in
      let asked = ltb 0 (asking m (view m t d) r p) in
      let free = room m (view m t d) r p in
      let roomy = (and_parts asked free (and_parts own (asked && free) g).1).1 in
      ⊎_elim (λ (l : p < 5). l) (λ (l : 5 ≤ p). absurd (true≢false (sym roomy ∙ no_room d r p l))) (cases_lt p 5)

  winner_is : (k d : ℕ) → k < ports plan → d < D → passing ms k d ≡ true → winner m (view m t d) (k / 5) (k % 5) ≡ (move_at ms k).winner
  unfolding winner
  winner_is k d h hd e =
      ap (λ (c : ℕ × ℕ). c.0) (choice_is plan choose route t lent k d h hd)
      ∙ sym (ap (λ (x : Option Move). (unwrap_or x no_move).winner) (granted_move plan choose route t lent k d h e))

  module _ (q : ℕ) (h : q < queue_count plan) where
    -- the domain, the router and the side of queue q
    abbrev d : ℕ
    d = q % D

    abbrev r : ℕ
    r = q / D / 5

    abbrev i : ℕ
    i = q / D % 5

    pub low_domain : d < D
    low_domain = mod_below q D plan.domains.0

    pub low_router : r < heads.routers plan
    low_router = router_in plan (q / D) (queue_port_in plan q h)

    pub low_side : i < 5
    low_side = mod_below (q / D) 5 (omega arith)

    pub number_is : (r * 5 + i) * D + d ≡ q
    number_is = rw (div-add-mod' (q / D) 5) (div-add-mod' q D)

    own_packets : (view m t d).queue r i ≡ packets m t q
    own_packets = view_queue plan choose route t lent d r i low_router low_side ∙ ap (packets m t) number_is

    -- where the first packet goes
    port_of_first : (some : 0 < (queue_at t q).count)
        → towards m r (packet plan choose route t lent.payloads_in q 0 h).destination ≡ head_side v r q
    unfolding towards width packet place_at queue_at
    port_of_first some =
        ap (λ k. route (position_of plan.sizes.width r) (position_of plan.sizes.width (get_or t.places k no_place).destination))
        (first_index plan choose route t lent.payloads_in q (lent.fit.firsts q h))

    leaves_first : 0 < (queue_at t q).count
        → leaves m d (view m t d) r i ≡ (grants m d (view m t d) r (head_side v r q) && eqb (winner m (view m t d) r (head_side v r q)) i)
    unfolding leaves first_leaves
    leaves_first some =
        let s = packets_some plan choose route t lent.payloads_in q h some in
        ap (first_leaves m d (view m t d) r i) (own_packets ∙ s.1)
        ∙ ap (λ p. grants m d (view m t d) r p && eqb (winner m (view m t d) r p) i) (port_of_first some)

    leaves_none : (queue_at t q).count ≡ 0 → leaves m d (view m t d) r i ≡ false
    unfolding leaves first_leaves
    leaves_none e = ap (first_leaves m d (view m t d) r i) (own_packets ∙ packets_none plan choose route t lent.payloads_in q h e)

    pub leaves_some : leaves m d (view m t d) r i ≡ true → 0 < (queue_at t q).count
    leaves_some e = ⊎_elim (λ (some : 0 < (queue_at t q).count). some)
        (λ (none : (queue_at t q).count ≤ 0).
        let z : (queue_at t q).count ≡ 0 = omega arith in
        absurd (true≢false (sym e ∙ leaves_none z)))
        (cases_lt 0 (queue_at t q).count)

    -- a port that takes the first packet of queue q makes it leave
    leaving_leaves : leaving plan ms q ≡ true → leaves m d (view m t d) r i ≡ true
    unfolding asks queue_at
    leaving_leaves e =
        let k = taken plan ms q e in
        let j = k.0 in
        let from : orders.source plan ms j ≡ q = k.1.1 in
        let p = passed_by plan choose route t lent lawful j k.1.0 in
        let go = p.1 in
        let own : (move_at ms j).owner ≡ d =
        sym (ap (λ n. n % D) (sym from) ∙ digits_mod (j / 5 * 5 + (move_at ms j).winner) go.owns) in
        let side : q / D ≡ j / 5 * 5 + (move_at ms j).winner =
        ap (λ n. n / D) (sym from) ∙ digits_div (j / 5 * 5 + (move_at ms j).winner) go.owns in
        let router : r ≡ j / 5 = ap (λ n. n / 5) side ∙ digits_div (j / 5) go.won in
        let won : (move_at ms j).winner ≡ i = sym (ap (λ n. n % 5) side ∙ digits_mod (j / 5) go.won) in
        let A : ℕ → Type 0 = λ n. asks v (j / 5) n (j % 5) ≡ true in
        let asked = and_parts _ _ (subst A from go.asked) in
        let some : 0 < (queue_at t q).count = ltb-true _ _ asked.0 in
        let port : head_side v (j / 5) q ≡ j % 5 = eqb-true _ _ (and_parts _ _ asked.1).1 in
        let yes : passing ms j d ≡ true = and_from _ _ k.1.0 (eq-eqb _ _ own) in
        let granted : grants m d (view m t d) (j / 5) (j % 5) ≡ true = sym (passing_grants plan choose route t lent j d p.0 low_domain)
        ∙ yes in
        let winning = eq-eqb _ _ (winner_is j d p.0 low_domain yes ∙ won) in
        let both : ℕ → ℕ → Type 0 = λ a b. (grants m d (view m t d) a b && eqb (winner m (view m t d) a b) i) ≡ true in
        let C : ℕ → Type 0 = λ a. both a (head_side v a q) in
        leaves_first some ∙ subst C (sym router) (subst (both (j / 5)) (sym port) (and_from _ _ granted winning))

    leaves_leaving : leaves m d (view m t d) r i ≡ true → leaving plan ms q ≡ true
    leaves_leaving e =
        let p = head_side v r q in
        let g = and_parts _ _ (sym (leaves_first (leaves_some e)) ∙ e) in
        let hp = grants_port d r p g.0 in
        let k = r * 5 + p in
        let h' = port_in plan r p low_router hp in
        let a : k / 5 ≡ r = digits_div r hp in
        let b : k % 5 ≡ p = digits_mod r hp in
        let here : grants m d (view m t d) (k / 5) (k % 5) ≡ true = rw (a, b) g.0 in
        let yes : passing ms k d ≡ true = passing_grants plan choose route t lent k d h' low_domain ∙ here in
        let y = and_parts _ _ yes in
        let own : (move_at ms k).owner ≡ d = eqb-true _ _ y.1 in
        let won : (move_at ms k).winner ≡ i = sym (winner_is k d h' low_domain yes) ∙ rw (a, b) (eqb-true _ _ g.1) in
        cut.leaves plan ms k q y.0 (rw own low_domain) (rw won low_side) (rw (a, own, won) number_is)

    pub leaving_is : leaving plan ms q ≡ leaves m d (view m t d) r i
    leaving_is = bool_same _ _ leaving_leaves leaves_leaving

    -- a packet that joins queue q, which is that of a port's move
    pub record Arrives : Type 0 where
      pub from : ℕ
      pub is : arriving plan ms q ≡ Some from
      pub packet : Packet P
      pub joins : joins m d (view m t d) r i ≡ packet ∷ []
      pub destination : packet.destination ≡ (move_at ms from).destination
      pub source : packet.source ≡ (move_at ms from).source
      pub ready : packet.ready ≡ t.cycle + plan.sizes.hop
      pub payload : (x : P) → get_or t.payloads (move_at ms from).from x ≡ packet.payload

    abbrev Idle : Type 0
    Idle = (arriving plan ms q ≡ None) × (joins m d (view m t d) r i ≡ [])

    -- by the neighbour beyond the queue's side
    joins_beyond : (o : Option ℕ) → neighbour_of plan.sizes.width plan.sizes.height r i ≡ o
        → joins m d (view m t d) r i
        ≡ map (ready_at (t.cycle + plan.sizes.hop)) (flat_map (λ (next : ℕ). sends m d (view m t d) next (opposite i)) (option_to_list o))
    unfolding joins beyond width hop view
    joins_beyond o e = ap
        (λ (x : Option ℕ). map (ready_at (t.cycle + plan.sizes.hop))
        (flat_map (λ (next : ℕ). sends m d (view m t d) next (opposite i)) (option_to_list x))) e

    arriving_beyond : (o : Option ℕ) → neighbour_of plan.sizes.width plan.sizes.height r i ≡ o
        → arriving plan ms q ≡ arriving_by ms d (across_to i o)
    unfolding arriving across
    arriving_beyond o e = ap (λ (x : Option ℕ). arriving_by ms d (across_to i x)) e

    by_neighbour : (o : Option ℕ) → neighbour_of plan.sizes.width plan.sizes.height r i ≡ o → Idle ⊎ Arrives
    unfolding ready_at
    by_neighbour None e = inl (arriving_beyond None e, joins_beyond None e)
    by_neighbour (Some n) e =
        let b = neighbour_back plan r i n low_router e in
        let j = n * 5 + opposite i in
        let low : opposite i < 5 = omega (arith, b.3) in
        let hj = port_in plan n (opposite i) b.0 low in
        let x : j / 5 ≡ n = digits_div n low in
        let y : j % 5 ≡ opposite i = digits_mod n low in
        let to : List (Packet P) → List (Packet P) = λ xs. map (ready_at (t.cycle + plan.sizes.hop)) (xs ++ []) in
        ⊎_elim
        (λ (yes : passing ms j d ≡ true).
        let s = sent plan choose route t lent lawful j d hj low_domain yes in
        let all : sends m d (view m t d) n (opposite i) ≡ s.packet ∷ [] = rw (x, y) at s.sends in
        inr (record {
          from = j;
          is = arriving_beyond (Some n) e ∙ rw yes refl;
          packet = ready_at (t.cycle + plan.sizes.hop) s.packet;
          joins = joins_beyond (Some n) e ∙ ap to all;
          destination = s.destination;
          source = s.source;
          ready = refl;
          payload = s.payload;
        }))
        (λ (no : passing ms j d ≡ false).
        let none : sends m d (view m t d) n (opposite i) ≡ [] = rw (x, y) at (unsent plan choose route t lent j d hj low_domain no) in
        inl (arriving_beyond (Some n) e ∙ rw no refl, joins_beyond (Some n) e ∙ ap to none))
        (cases_Bool (passing ms j d))

    pub joining : Idle ⊎ Arrives
    joining = by_neighbour _ refl
