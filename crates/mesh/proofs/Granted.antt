-- What a port grants by the tables' records is what it grants by a domain's view.
use Rattle.std.proofs.Common.{◌≡◌, ℕ, ◌+◌, ◌*◌, ◌/◌, ◌%◌, ◌<◌, ◌≤◌, true, cond, ◌&&◌, ◌||◌, eqb, ltb, leb, length, get_or, Some, None, Option, refl, ap, ◌∙◌, ⊎_elim, arith}
use lib.Arith.{digits_div, digits_mod}
use Rattle.std.specs.Option.{option_to_list}
use Rattle.std.proofs.lemmas.Bool.{and_from, cases_lt, lt-ltb, le-ltb}
use Rattle.schedule.specs.declared.geometry.Position.{Position}
use Rattle.schedule.specs.declared.plan.Plan.{Plan}
use Rattle.schedule.specs.Mesh.{neighbour_of, position_of}
use Rattle.machine.specs.Cycle.{asks, asking, bit, grants, room, room_beyond}
use Rattle.machine.specs.Machine.{Machine, machine, beyond, depth, domains, inside, opposite, owner, queue_number, routers, towards, width}
use Rattle.machine.specs.Tables.{Tables, packets, place_at, queue_at, view}
use Rattle.mesh.specs.Heads.{Fit, Outset, outset, asker, asking_set, mask, no_place, queue_count}
use Rattle.mesh.specs.Heads as heads
use Rattle.mesh.specs.Ports.{across, across_to, has_room}
use Rattle.mesh.specs.Ports as ports_of
use Rattle.mesh.proofs.Across.{neighbour_back}
use Rattle.mesh.proofs.Index.{port_in, queue_in}
use Rattle.mesh.proofs.Packets.{packet, packets_length, packets_none, packets_some, first_index}

-- tables that are long enough, whose queue records fit their places
pub record Lent {P : Type 0} (plan : Plan) (t : Tables P) : Type 0 where
  pub fit : Fit plan t.queues t.places
  pub payloads_in : queue_count plan * plan.sizes.depth ≤ length t.payloads
  pub words_in : queue_count plan ≤ length t.words

-- the sides from 0 to 4 in the two orders in which their bits are added
added : (a b c d e : ℕ) → a + (b + (c + (d + e))) ≡ 0 + a + b + c + d + e
added a b c d e = omega arith

module _ {P : Type 0} (plan : Plan) (choose : ℕ → ℕ → ℕ × ℕ) (route : Position → Position → ℕ) (t : Tables P) (lent : Lent plan t) where
  abbrev m : Machine
  m = machine plan choose route

  abbrev v : Outset
  v = outset plan route t.cycle t.queues t.places

  abbrev number : ℕ → ℕ → ℕ → ℕ
  number r i d = (r * 5 + i) * plan.sizes.domains + d

  pub number_in : (r i d : ℕ) → r < heads.routers plan → i < 5 → d < plan.sizes.domains → number r i d < queue_count plan
  number_in r i d hr hi hd = queue_in plan (r * 5 + i) d (port_in plan r i hr hi) hd

  inside_is : (r i : ℕ) → r < heads.routers plan → i < 5 → inside m r i ≡ true
  unfolding inside routers
  inside_is r i hr hi = and_from _ _ (lt-ltb _ _ hr) (lt-ltb _ _ hi)

  pub view_queue : (d r i : ℕ) → r < heads.routers plan → i < 5 → (view m t d).queue r i ≡ packets m t (number r i d)
  unfolding view queue_number domains
  view_queue d r i hr hi = let e = inside_is r i hr hi in rw e refl

  pub view_word : (d r i : ℕ) → r < heads.routers plan → i < 5 → (view m t d).word r i ≡ get_or t.words (number r i d) 0
  unfolding view queue_number domains
  view_word d r i hr hi = let e = inside_is r i hr hi in rw e refl

  asks_are : (r q p : ℕ) → q < queue_count plan → asks m t.cycle r p (packets m t q) ≡ heads.asks v r q p
  unfolding asks heads.asks packet place_at queue_at towards width
  asks_are r q p h = ⊎_elim
      (λ (some : 0 < (queue_at t q).count).
      let s = packets_some plan choose route t lent.payloads_in q h some in
      let yes = lt-ltb 0 (queue_at t q).count some in
      let w = plan.sizes.width in
      ap (asks m t.cycle r p) s.1
      ∙ rw yes (ap (λ k. let x = get_or t.places k no_place in
      leb x.ready t.cycle && eqb (route (position_of w r) (position_of w x.destination)) p)
      (first_index plan choose route t lent.payloads_in q (lent.fit.firsts q h))))
      (λ (none : (queue_at t q).count ≤ 0).
      let z : (queue_at t q).count ≡ 0 = omega arith in
      let no = le-ltb 0 (queue_at t q).count none in
      ap (asks m t.cycle r p) (packets_none plan choose route t lent.payloads_in q h z) ∙ rw no refl)
      (cases_lt 0 (queue_at t q).count)

  asker_is : (d r p i : ℕ) → r < heads.routers plan → i < 5 → d < plan.sizes.domains
      → asks m t.cycle r p ((view m t d).queue r i) ≡ asker v r p d i
  asker_is d r p i hr hi hd =
      ap (asks m t.cycle r p) (view_queue d r i hr hi) ∙ asks_are r (number r i d) p (number_in r i d hr hi hd)

  -- the view's cycle is that of the tables
  view_cycle : (d : ℕ) → (view m t d).cycle ≡ t.cycle
  unfolding view
  view_cycle d = refl

  pub asking_is : (d r p : ℕ) → r < heads.routers plan → d < plan.sizes.domains → asking m (view m t d) r p ≡ asking_set v r p d
  unfolding asking bit mask
  asking_is d r p hr hd =
      let one : (i : ℕ) → i < 5 → asks m (view m t d).cycle r p ((view m t d).queue r i) ≡ asker v r p d i
      = λ i hi. ap (λ c. asks m c r p ((view m t d).queue r i)) (view_cycle d) ∙ asker_is d r p i hr hi hd in
      rw (one 0 (omega arith), one 1 (omega arith), one 2 (omega arith), one 3 (omega arith), one 4 (omega arith))
      (added (cond (asker v r p d 0) 1 0) (cond (asker v r p d 1) 2 0) (cond (asker v r p d 2) 4 0) (cond (asker v r p d 3) 8 0)
      (cond (asker v r p d 4) 16 0))

  -- the queue that a port feeds, if there is one
  fed_room : (d r p : ℕ) → r < heads.routers plan → d < plan.sizes.domains → (o : Option ℕ)
      → neighbour_of plan.sizes.width plan.sizes.height r p ≡ o
      → room_beyond m (view m t d) p (option_to_list o) ≡ has_room plan t.queues d (across_to p o)
  unfolding room_beyond depth queue_at
  fed_room d r p hr hd None e = refl
  fed_room d r p hr hd (Some n) e =
      let b = neighbour_back plan r p n hr e in
      let i : opposite p < 5 = omega (arith, b.3) in
      ap (λ c. ltb c (depth m))
      (ap length (view_queue d n (opposite p) b.0 i)
      ∙ packets_length plan choose route t lent.payloads_in _ (number_in n (opposite p) d b.0 i hd))

  pub room_is : (d r p : ℕ) → r < heads.routers plan → p < 5 → d < plan.sizes.domains
      → room m (view m t d) r p ≡ ports_of.room plan t.queues (r * 5 + p) d
  unfolding room ports_of.room beyond width across
  room_is d r p hr hp hd =
      let a : (r * 5 + p) / 5 ≡ r = digits_div r hp in
      let b : (r * 5 + p) % 5 ≡ p = digits_mod r hp in
      rw (a, b) (ap (λ x. eqb p 4 || x) (fed_room d r p hr hd _ refl))

  owner_is : (r p : ℕ) → owner m r p t.cycle ≡ ports_of.owner plan t.cycle (r * 5 + p)
  unfolding owner ports_of.owner
  owner_is r p = refl

  -- the three conditions of a grant
  pub grants_is : (d r p : ℕ) → r < heads.routers plan → p < 5 → d < plan.sizes.domains
      → grants m d (view m t d) r p
      ≡ (eqb (ports_of.owner plan t.cycle (r * 5 + p)) d && (ltb 0 (asking_set v r p d) && ports_of.room plan t.queues (r * 5 + p) d))
  unfolding grants
  grants_is d r p hr hp hd =
      let o : owner m r p (view m t d).cycle ≡ ports_of.owner plan t.cycle (r * 5 + p) = ap (owner m r p) (view_cycle d)
      ∙ owner_is r p in
      rw (o, asking_is d r p hr hd, room_is d r p hr hp hd) refl
