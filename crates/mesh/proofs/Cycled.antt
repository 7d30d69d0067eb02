-- The tables that the moves of a cycle leave are those that the machine's cycle leaves.
use Rattle.std.proofs.Common.{◌≡◌, ℕ, ◌+◌, ◌-◌, ◌*◌, ◌/◌, ◌%◌, ◌<◌, ◌≤◌, Bool, true, false, cond, ◌⊎◌, List, [], ◌∷◌, length, get_or, Some, None, Option, sym, refl, ap, ◌∙◌, ap₂, inl, inr, ⊎_elim, arith, unwrap_or}
use lib.Arith.{digits_div, digits_mod}
use Rattle.std.proofs.lemmas.Bool.{and_parts, cases_Bool, cond_both, eqb-true}
use Rattle.schedule.specs.declared.geometry.Position.{Position}
use Rattle.schedule.specs.declared.plan.Plan.{Plan}
use Rattle.machine.specs.declared.tables.Delivery.{Delivery}
use Rattle.machine.specs.declared.tables.Place.{Place}
use Rattle.machine.specs.Cycle.{bit, joins, leaves, next_word}
use Rattle.machine.specs.Machine.{Machine, machine, depth, domains, owner, queues, routers}
use Rattle.machine.specs.Moves.{edit, moved, cycle_moves, domain_of, router_of, side_of, is_end}
use Rattle.machine.specs.Moves as moved_by
use Rattle.machine.specs.Packets.{Packet}
use Rattle.machine.specs.Tables.{Tables, queue_at, view}
use Rattle.mesh.specs.declared.moves.Move.{Move}
use Rattle.mesh.specs.After.{arriving, delivered_after, delivery_after, landing, one, passing, payload_after, payload_by}
use Rattle.mesh.specs.After.{place_after, place_by, queue_after, word_after}
use Rattle.mesh.specs.Heads.{Outset, outset, queue_count}
use Rattle.mesh.specs.Heads as heads
use Rattle.mesh.specs.Ports.{move_at, no_move, passes_at}
use Rattle.mesh.specs.Ports as ports_of
use Rattle.mesh.proofs.Clear.{made}
use Rattle.mesh.proofs.Cut.{none_by, some_by}
use Rattle.mesh.proofs.Edited.{edit_like, edit_same}
use Rattle.mesh.proofs.Granted.{Lent, view_word}
use Rattle.mesh.proofs.Index.{place_queue_in, port_in, queue_port_in}
use Rattle.mesh.proofs.Moved.{Arrives, joining, leaves_some, leaving_is, low_domain, low_router, low_side, number_is}
use Rattle.mesh.proofs.Owners.{owner_below}
use Rattle.mesh.proofs.Sent.{Lawful, choice_is, granted_move, own_passing, passing_grants, sent, unsent}

module _ {P : Type 0} (plan : Plan) (choose : ℕ → ℕ → ℕ × ℕ) (route : Position → Position → ℕ) (t : Tables P) (lent : Lent plan t)
    (lawful : Lawful choose) where
  abbrev m : Machine
  m = machine plan choose route

  abbrev v : Outset
  v = outset plan route t.cycle t.queues t.places

  abbrev ms : List (Option Move)
  ms = made v choose t.words

  abbrev D : ℕ
  D = plan.sizes.domains

  abbrev B : ℕ
  B = plan.sizes.depth

  abbrev joined_to : ℕ → List (Packet P)
  joined_to q = joins m (q % D) (view m t (q % D)) (q / D / 5) (q / D % 5)

  one_length : (q : ℕ) → q < queue_count plan → one (arriving plan ms q) ≡ length (joined_to q)
  one_length q h = ⊎_elim
      (λ no. ap one no.0 ∙ sym (ap length no.1))
      (λ yes. ap one yes.is ∙ sym (ap length yes.joins))
      (joining plan choose route t lent lawful q h)

  queue_same : (q : ℕ) → q < queue_count plan
      → queue_after plan ms q (queue_at t q)
      ≡ moved_by.queue_after B (leaves m (q % D) (view m t (q % D)) (q / D / 5) (q / D % 5)) (length (joined_to q)) (queue_at t q)
  unfolding queue_after moved_by.queue_after bit
  queue_same q h =
      let x = queue_at t q in
      let l : Bool = leaves m (q % D) (view m t (q % D)) (q / D / 5) (q / D % 5) in
      let is = leaving_is plan choose route t lent lawful q h in
      let some = leaves_some plan choose route t lent lawful q h in
      let N : ℕ → Type 0 = λ c. c ≤ x.count in
      let few : cond l 1 0 ≤ x.count = cond_both l 1 0 N (λ e. some e) (λ e. omega arith) in
      let counts : x.count + length (joined_to q) - cond l 1 0 ≡ x.count - cond l 1 0 + length (joined_to q) = omega arith in
      let first = ap (λ (b : Bool). cond b ((x.first + 1) % B) x.first) is in
      let count = ap₂ (λ (n : ℕ) (b : Bool). x.count + n - cond b 1 0) (one_length q h) is ∙ counts in
      λ i. record { first = first i; count = count i }

  pub queues_cycled : edit 0 (queue_count plan) (queue_after plan ms) t.queues ≡ (moved m (cycle_moves m t) (t.cycle + 1) t).queues
  unfolding moved cycle_moves queues routers domains depth domain_of router_of side_of queue_at
  queues_cycled = edit_same (queue_count plan) _ _ t.queues (record { first = 0; count = 0 }) (λ q h _. queue_same q h)

  -- nothing joins the queue of a place
  place_idle : (here : Bool) (a : Option ℕ) (xs : List (Packet P)) (x : Place) → a ≡ None → xs ≡ []
      → place_by plan t.cycle ms (cond here a None) x ≡ moved_by.place_after here xs x
  unfolding moved_by.place_after
  place_idle true a xs x e f = rw (e, f) refl
  place_idle false a xs x e f = rw f refl

  payload_idle : (here : Bool) (a : Option ℕ) (xs : List (Packet P)) (x : P) → a ≡ None → xs ≡ []
      → payload_by ms t.payloads (cond here a None) x ≡ moved_by.payload_after here xs x
  unfolding moved_by.payload_after
  payload_idle true a xs x e f = rw (e, f) refl
  payload_idle false a xs x e f = rw f refl

  -- a packet joins it
  module _ (q : ℕ) (h : q < queue_count plan) (yes : Arrives plan choose route t lent lawful q h) where
    place_joined : (here : Bool) (a : Option ℕ) (xs : List (Packet P)) (x : Place) → a ≡ Some yes.from → xs ≡ yes.packet ∷ []
        → place_by plan t.cycle ms (cond here a None) x ≡ moved_by.place_after here xs x
    unfolding moved_by.place_after
    place_joined true a xs x e f = rw (e, f) (λ i. record {
      destination = sym yes.destination i;
      source = sym yes.source i;
      ready = sym yes.ready i;
    })
    place_joined false a xs x e f = rw f refl

    payload_joined : (here : Bool) (a : Option ℕ) (xs : List (Packet P)) (x : P) → a ≡ Some yes.from → xs ≡ yes.packet ∷ []
        → payload_by ms t.payloads (cond here a None) x ≡ moved_by.payload_after here xs x
    unfolding moved_by.payload_after
    payload_joined true a xs x e f = rw (e, f) (yes.payload x)
    payload_joined false a xs x e f = rw f refl

  abbrev here : ℕ → Bool
  here k = is_end B (queue_at t (k / B)) (k % B)

  place_same : (k : ℕ) (x : Place) → k / B < queue_count plan
      → place_after plan t.cycle t.queues ms k x ≡ moved_by.place_after (here k) (joined_to (k / B)) x
  unfolding place_after landing is_end queue_at
  place_same k x h = ⊎_elim
      (λ no. place_idle (here k) _ (joined_to (k / B)) x no.0 no.1)
      (λ yes. place_joined (k / B) h yes (here k) _ (joined_to (k / B)) x yes.is yes.joins)
      (joining plan choose route t lent lawful (k / B) h)

  payload_same : (k : ℕ) (x : P) → k / B < queue_count plan
      → payload_after plan t.queues ms t.payloads k x ≡ moved_by.payload_after (here k) (joined_to (k / B)) x
  unfolding payload_after landing is_end queue_at
  payload_same k x h = ⊎_elim
      (λ no. payload_idle (here k) _ (joined_to (k / B)) x no.0 no.1)
      (λ yes. payload_joined (k / B) h yes (here k) _ (joined_to (k / B)) x yes.is yes.joins)
      (joining plan choose route t lent lawful (k / B) h)

  pub places_cycled : edit 0 (queue_count plan * B) (place_after plan t.cycle t.queues ms) t.places
      ≡ (moved m (cycle_moves m t) (t.cycle + 1) t).places
  unfolding moved cycle_moves queues routers domains depth domain_of router_of side_of
  places_cycled = edit_like (queue_count plan * B) _ _ t.places (λ k x h. place_same k x (place_queue_in plan k h))

  pub payloads_cycled : edit 0 (queue_count plan * B) (payload_after plan t.queues ms t.payloads) t.payloads
      ≡ (moved m (cycle_moves m t) (t.cycle + 1) t).payloads
  unfolding moved cycle_moves queues routers domains depth domain_of router_of side_of
  payloads_cycled = edit_like (queue_count plan * B) _ _ t.payloads (λ k x h. payload_same k x (place_queue_in plan k h))

  word_same : (q : ℕ) → q < queue_count plan
      → word_after plan ms q (get_or t.words q 0) ≡ next_word m (q % D) (view m t (q % D)) (q / D / 5) (q / D % 5)
  unfolding word_after next_word
  word_same q h =
      let k = q / D in
      let d = q % D in
      let hk = queue_port_in plan q h in
      let hd = low_domain plan choose route t lent lawful q h in
      let e = passing_grants plan choose route t lent k d hk hd in
      let old = view_word plan choose route t lent d (k / 5) (k % 5) (low_router plan choose route t lent lawful q h)
      (low_side plan choose route t lent lawful q h) in
      ⊎_elim
      (λ (yes : passing ms k d ≡ true).
      let g = sym e ∙ yes in
      rw (yes, g) (ap (λ (x : Option Move). (unwrap_or x no_move).next) (granted_move plan choose route t lent k d hk yes)
      ∙ sym (ap (λ (c : ℕ × ℕ). c.1) (choice_is plan choose route t lent k d hk hd))))
      (λ (no : passing ms k d ≡ false).
      let g = sym e ∙ no in
      rw (no, g) (sym (old ∙ ap (λ n. get_or t.words n 0) (number_is plan choose route t lent lawful q h))))
      (cases_Bool (passing ms k d))

  pub words_cycled : edit 0 (queue_count plan) (word_after plan ms) t.words ≡ (moved m (cycle_moves m t) (t.cycle + 1) t).words
  unfolding moved cycle_moves queues routers domains domain_of router_of side_of
  words_cycled = edit_same (queue_count plan) _ _ t.words 0 (λ q h _. word_same q h)

  -- a packet that router r hands over, which is that of its local port's move
  record Handed (r : ℕ) : Type 0 where
    passes : get_or ms (r * 5 + 4) None ≡ Some (move_at ms (r * 5 + 4))
    owned : (move_at ms (r * 5 + 4)).owner ≡ owner m r 4 t.cycle
    packet : Packet P
    over : moved_by.handed_over m t r ≡ packet ∷ []
    source : packet.source ≡ (move_at ms (r * 5 + 4)).source
    payload : (x : P) → get_or t.payloads (move_at ms (r * 5 + 4)).from x ≡ packet.payload

  handing : (r : ℕ) → r < heads.routers plan → ((get_or ms (r * 5 + 4) None ≡ None) × (moved_by.handed_over m t r ≡ [])) ⊎ Handed r
  unfolding moved_by.handed_over owner ports_of.owner
  handing r h =
      let k = r * 5 + 4 in
      let hk = port_in plan r 4 h (omega arith) in
      let d = ports_of.owner plan t.cycle k in
      let hd = owner_below plan t.cycle k in
      let a : k / 5 ≡ r = digits_div r (omega arith) in
      let b : k % 5 ≡ 4 = digits_mod r (omega arith) in
      let own = own_passing plan choose route t lent k hk in
      ⊎_elim
      (λ (yes : passing ms k d ≡ true).
      let s = sent plan choose route t lent lawful k d hk hd yes in
      inr (record {
        passes = some_by _ no_move (own ∙ yes);
        owned = eqb-true _ _ (and_parts _ _ yes).1;
        packet = s.packet;
        over = rw (a, b) at s.sends;
        source = s.source;
        payload = s.payload;
      }))
      (λ (no : passing ms k d ≡ false). inl (none_by _ (own ∙ no), rw (a, b) at (unsent plan choose route t lent k d hk hd no)))
      (cases_Bool (passing ms k d))

  delivery_same : (r : ℕ) (x : Delivery) → r < heads.routers plan
      → delivery_after ms r x ≡ moved_by.record_of (owner m r 4 t.cycle) (moved_by.handed_over m t r)
  unfolding delivery_after moved_by.record_of
  delivery_same r x h = ⊎_elim
      (λ no. let off = no.0 in let none = no.1 in rw (off, none) refl)
      (λ yes. let on = yes.passes in let all = yes.over in
      rw (on, all) (λ i. record { mark = 1; domain = yes.owned i; source = sym yes.source i }))
      (handing r h)

  delivered_same : (r : ℕ) (x : P) → r < heads.routers plan
      → delivered_after ms t.payloads r x ≡ moved_by.payload_beside (moved_by.handed_over m t r) x
  unfolding delivered_after moved_by.payload_beside
  delivered_same r x h = ⊎_elim
      (λ no. let off = no.0 in let none = no.1 in rw (off, none) refl)
      (λ yes. let on = yes.passes in let all = yes.over in rw (on, all) (yes.payload x))
      (handing r h)

  pub deliveries_cycled : (deliveries : List Delivery) → edit 0 (heads.routers plan) (delivery_after ms) deliveries
      ≡ edit 0 (routers m) (λ router _. moved_by.record_of (owner m router 4 t.cycle) (moved_by.handed_over m t router)) deliveries
  unfolding routers
  deliveries_cycled deliveries = edit_like (heads.routers plan) _ _ deliveries (λ r x h. delivery_same r x h)

  pub delivered_cycled : (delivered : List P) → edit 0 (heads.routers plan) (delivered_after ms t.payloads) delivered
      ≡ edit 0 (routers m) (λ router x. moved_by.payload_beside (moved_by.handed_over m t router) x) delivered
  unfolding routers
  delivered_cycled delivered = edit_like (heads.routers plan) _ _ delivered (λ r x h. delivered_same r x h)
