-- The moves of a cycle, port by port, are what the machine's ports send.
use Rattle.std.proofs.Common.{◌≡◌, ℕ, ◌+◌, ◌*◌, ◌/◌, ◌%◌, ◌^◌, ◌<◌, Bool, true, false, cond, ◌&&◌, eqb, ltb, List, [], ◌∷◌, get_or, is_some, Some, None, Option, take, sym, refl, ap, ◌∙◌, subst, ap₂, ⊎_elim, arith, unwrap_or}
use Rattle.std.proofs.lemmas.Nat.{div-add-mod', mod_below}
use Rattle.std.proofs.lemmas.Bool.{and_parts, cases_eq, eq-eqb, ne_eqb, eqb-true, true≢false}
use Rattle.schedule.specs.declared.geometry.Position.{Position}
use Rattle.schedule.specs.declared.plan.Plan.{Plan}
use Rattle.rules.specs.Arbiters as arbiters
use Rattle.machine.specs.Cycle.{asking, grants, sends, winner}
use Rattle.machine.specs.Machine.{Machine, machine}
use Rattle.machine.specs.Packets.{Packet}
use Rattle.machine.specs.Tables.{Tables, place_at, queue_at, view}
use Rattle.mesh.specs.declared.moves.Move.{Move}
use Rattle.mesh.specs.After.{passing}
use Rattle.mesh.specs.Heads.{Outset, outset, asking_set, no_place, ports, queue_count}
use Rattle.mesh.specs.Orderly.{Orderly}
use Rattle.mesh.specs.Orderly as orders
use Rattle.mesh.specs.Ports.{move_at, no_move, passes_at, move_in, owner, passes, room}
use Rattle.mesh.proofs.Chosen.{move_cases}
use Rattle.mesh.proofs.Clear.{Passed, made, made_at, orderly, passed, some_of_queue}
use Rattle.mesh.proofs.Granted.{Lent, asking_is, grants_is, number_in, view_queue, view_word}
use Rattle.mesh.proofs.Index.{router_in}
use Rattle.mesh.proofs.Packets.{first_index, index_in, one_at, packet, packets_some}

-- a move by its owner w, seen by domain d
by_owner : (b c : Bool) (w d : ℕ) (x : Move) → x.owner ≡ w → (w ≡ d → b ≡ c)
    → (is_some (cond b (Some x) None) && eqb (unwrap_or (cond b (Some x) None) no_move).owner d) ≡ (eqb w d && c)
by_owner true c w d x xo e = ⊎_elim
    (λ (s : w ≡ d). let t = eq-eqb w d s in let u = e s in rw (xo, t) u)
    (λ (n : w ≡ d → ⊥). let t = ne_eqb w d n in rw (xo, t) refl)
    (cases_eq w d)
by_owner false c w d x xo e = ⊎_elim
    (λ (s : w ≡ d). let t = eq-eqb w d s in let u = e s in rw t u)
    (λ (n : w ≡ d → ⊥). let t = ne_eqb w d n in rw t refl)
    (cases_eq w d)

-- a move seen by its owner
by_itself : (b : Bool) (w : ℕ) (x : Move) → x.owner ≡ w
    → is_some (cond b (Some x) None) ≡ (is_some (cond b (Some x) None) && eqb (unwrap_or (cond b (Some x) None) no_move).owner w)
by_itself true w x xo = let t = eq-eqb w w refl in rw (xo, t) refl
by_itself false w x xo = refl

-- what an arbiter keeps to, as the lemmas on moves want it
pub Lawful : (ℕ → ℕ → ℕ × ℕ) → Type 0
Lawful choose = (word sides : ℕ) → 0 < sides → sides < 32 → ((choose word sides).0 < 5) × (arbiters.asks sides (choose word sides).0 ≡ true)

pub lawful_by : {bits : ℕ} (choose : ℕ → ℕ → ℕ × ℕ) → arbiters.Arbitrates bits choose → Lawful choose
unfolding Lawful
lawful_by choose arbitrates = arbitrates.winner_asks

module _ {P : Type 0} (plan : Plan) (choose : ℕ → ℕ → ℕ × ℕ) (route : Position → Position → ℕ) (t : Tables P) (lent : Lent plan t) where
  abbrev m : Machine
  m = machine plan choose route

  abbrev v : Outset
  v = outset plan route t.cycle t.queues t.places

  abbrev ms : List (Option Move)
  ms = made v choose t.words

  passing_is : (k d : ℕ) → k < ports plan
      → passing ms k d ≡ (eqb (owner plan t.cycle k) d && (ltb 0 (asking_set v (k / 5) (k % 5) d) && room plan t.queues k d))
  unfolding move_in
  passing_is k d h =
      let w = owner plan t.cycle k in
      let free : ℕ → Bool = λ e. ltb 0 (asking_set v (k / 5) (k % 5) e) && room plan t.queues k e in
      let picked = choose (get_or t.words (k * plan.sizes.domains + w) 0) (asking_set v (k / 5) (k % 5) w) in
      ap (λ (x : Option Move). is_some x && eqb (unwrap_or x no_move).owner d) (made_at v choose t.words k h)
      ∙ by_owner (free w) (free d) w d
      (passes plan t.queues t.places w picked.0 picked.1 ((k / 5 * 5 + picked.0) * plan.sizes.domains + w)) refl (ap free)

  pub own_passing : (k : ℕ) → k < ports plan → passes_at ms k ≡ passing ms k (owner plan t.cycle k)
  unfolding move_in
  own_passing k h =
      let w = owner plan t.cycle k in
      let b : Bool = ltb 0 (asking_set v (k / 5) (k % 5) w) && room plan t.queues k w in
      let choice = choose (get_or t.words (k * plan.sizes.domains + w) 0) (asking_set v (k / 5) (k % 5) w) in
      let x = passes plan t.queues t.places w choice.0 choice.1 ((k / 5 * 5 + choice.0) * plan.sizes.domains + w) in
      let at : get_or ms k None ≡ cond b (Some x) None = made_at v choose t.words k h in
      ap (λ (y : Option Move). is_some y) at ∙ by_itself b w x refl ∙ ap (λ (y : Option Move). is_some y && eqb (unwrap_or y no_move).owner w) (sym at)

  pub passing_grants : (k d : ℕ) → k < ports plan → d < plan.sizes.domains → passing ms k d ≡ grants m d (view m t d) (k / 5) (k % 5)
  passing_grants k d h hd =
      let g = grants_is plan choose route t lent d (k / 5) (k % 5) (router_in plan k h) (mod_below k 5 (omega arith)) hd in
      passing_is k d h ∙ sym (rw (div-add-mod' k 5) at g)

  -- what the arbiter of port k answers for domain d
  abbrev picked : ℕ → ℕ → ℕ × ℕ
  picked k d = choose (get_or t.words (k * plan.sizes.domains + d) 0) (asking_set v (k / 5) (k % 5) d)

  abbrev granting : ℕ → ℕ → Move
  granting k d = passes plan t.queues t.places d (picked k d).0 (picked k d).1
      ((k / 5 * 5 + (picked k d).0) * plan.sizes.domains + d)

  -- a port that passes a packet for domain d
  pub granted_move : (k d : ℕ) → k < ports plan → passing ms k d ≡ true → get_or ms k None ≡ Some (granting k d)
  granted_move k d h e =
      let p = and_parts _ _ e in
      let w = owner plan t.cycle k in
      let at : get_or ms k None ≡ move_in v choose t.words k w = made_at v choose t.words k h in
      ⊎_elim (λ no. absurd (true≢false (sym p.0 ∙ ap (λ (x : Option Move). is_some x) (at ∙ sym no))))
      (λ yes.
      let whole : get_or ms k None ≡ Some (granting k w) = at ∙ sym yes.2 in
      let own : w ≡ d = sym (ap (λ (x : Option Move). (unwrap_or x no_move).owner) whole) ∙ eqb-true _ _ p.1 in
      whole ∙ ap (λ e. Some (granting k e)) own)
      (move_cases v choose t.words k w)

  -- the arbiter of a domain's view answers the same
  pub choice_is : (k d : ℕ) → k < ports plan → d < plan.sizes.domains
      → choose ((view m t d).word (k / 5) (k % 5)) (asking m (view m t d) (k / 5) (k % 5)) ≡ picked k d
  choice_is k d h hd =
      let r = router_in plan k h in
      let p = mod_below k 5 (omega arith) in
      ap₂ choose (view_word plan choose route t lent d (k / 5) (k % 5) r p
      ∙ ap (λ n. get_or t.words (n * plan.sizes.domains + d) 0) (div-add-mod' k 5))
      (asking_is plan choose route t lent d (k / 5) (k % 5) r hd)

  -- a packet that the machine sends by port k for domain d, which is that of the port's move
  pub record Sent (k d : ℕ) : Type 0 where
    pub packet : Packet P
    pub sends : sends m d (view m t d) (k / 5) (k % 5) ≡ packet ∷ []
    pub destination : packet.destination ≡ (move_at ms k).destination
    pub source : packet.source ≡ (move_at ms k).source
    pub payload : (x : P) → get_or t.payloads (move_at ms k).from x ≡ packet.payload

  pub unsent : (k d : ℕ) → k < ports plan → d < plan.sizes.domains → passing ms k d ≡ false → sends m d (view m t d) (k / 5) (k % 5) ≡ []
  unfolding sends
  unsent k d h hd e = let g = sym (passing_grants k d h hd) ∙ e in rw g refl

  module _ (lawful : Lawful choose) where
    pub within : (word set : ℕ) → 0 < set → set < 32 → (choose word set).0 < 5
    unfolding Lawful
    within word set some few = (lawful word set some few).0

    pub wins : (word set : ℕ) → 0 < set → set < 32 → set / 2 ^ (choose word set).0 % 2 ≡ 1
    unfolding Lawful
    wins word set some few = eqb-true _ _ (lawful word set some few).1

    pub orderly_moves : Orderly plan t.queues ms
    orderly_moves = orderly v choose t.words lent.fit within wins

    pub passed_by : (k : ℕ) → passes_at ms k ≡ true → (k < ports plan) × Passed v choose t.words lent.fit within wins k
    passed_by k e = passed v choose t.words lent.fit within wins k e

    pub sent : (k d : ℕ) → k < ports plan → d < plan.sizes.domains → passing ms k d ≡ true → Sent k d
    unfolding sends winner packet place_at queue_at
    sent k d h hd e =
        let g = sym (passing_grants k d h hd) ∙ e in
        let go = (passed_by k (and_parts _ _ e).0).1 in
        let whole = granted_move k d h e in
        let won : (picked k d).0 < 5 = rw (ap (λ (x : Option Move). (unwrap_or x no_move).winner) whole) at go.won in
        let r = router_in plan k h in
        let q = (k / 5 * 5 + (picked k d).0) * plan.sizes.domains + d in
        let here : orders.source plan ms k ≡ q = rw whole refl in
        let hq : q < queue_count plan = number_in plan choose route t lent (k / 5) (picked k d).0 d r won hd in
        let C : ℕ → Type 0 = λ n. 0 < (queue_at t n).count in
        let some : 0 < (queue_at t q).count = subst C here (some_of_queue v choose t.words lent.fit within wins k go) in
        let s = packets_some plan choose route t lent.payloads_in q hq some in
        let first = first_index plan choose route t lent.payloads_in q (lent.fit.firsts q hq) in
        let x = packet plan choose route t lent.payloads_in q 0 hq in
        record {
          packet = x;
          sends = rw g (ap (λ i. take 1 ((view m t d).queue (k / 5) i)) (ap (λ (c : ℕ × ℕ). c.0) (choice_is k d h hd))
              ∙ ap (take 1) (view_queue plan choose route t lent d (k / 5) (picked k d).0 r won ∙ s.1));
          destination = ap (λ i. (get_or t.places i no_place).destination) first ∙ sym (ap (λ (y : Option Move). (unwrap_or y no_move).destination) whole);
          source = ap (λ i. (get_or t.places i no_place).source) first ∙ sym (ap (λ (y : Option Move). (unwrap_or y no_move).source) whole);
          payload = λ y. ap (λ i. get_or t.payloads i y) (ap (λ (z : Option Move). (unwrap_or z no_move).from) whole ∙ sym first)
              ∙ (one_at t.payloads _ (index_in plan choose route t lent.payloads_in q 0 hq)).2 y;
        }
