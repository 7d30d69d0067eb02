-- Every plan, arbiter and route rule keep what the lemmas about runs want.
use Rattle.std.proofs.Common.{⊎_elim, ◌≡◌, ℕ, suc, ◌+◌, ◌-◌, ◌%◌, ◌<◌, ◌≤◌, List, [], ◌∷◌, length, get_or, take, Option, sym, ap, ◌∙◌, mod-lt, mod-eq_of_lt, mul-pos, arith, length-append, length-take}
use lib.ListN.{length-replicate}
use Rattle.std.specs.Option.{option_map, option_to_list}
use Rattle.std.proofs.lemmas.Nat.{div-add-mod'}
use Rattle.std.proofs.lemmas.List.{length-take-le}
use Rattle.std.proofs.lemmas.Bool.{cases_eq}
use Rattle.schedule.specs.declared.geometry.Position.{Position}
use Rattle.schedule.specs.declared.plan.Plan.{Plan}
use Rattle.schedule.specs.Mesh.{position_of, router_at, hops}
use Rattle.schedule.specs.Timetable.{offset, share, DomainsHaveSlots, SlotsNameDomains, WaveRule}
use Rattle.schedule.specs.Turns as turns
use Rattle.rules.specs.Arbiters.{Arbitrates}
use Rattle.rules.specs.Routes.{Routes}
use Rattle.machine.specs.Machine.{Machine, machine, width, domains, depth, hop, routers, owner, towards, beyond}
use Rattle.machine.proofs.Laws.{Lawful, Kept, distance}
use Rattle.machine.proofs.Links.{position_router, position_within, width_some, some_of_list, neighbour_back}

module _ (c : Machine) (routes : Routes c.route) (w8 : c.timetable.sizes.width ≤ 8) (h8 : c.timetable.sizes.height ≤ 8) where
  same_router : (r e : ℕ) → position_of (width c) r ≡ position_of (width c) e → r ≡ e
  same_router r e q = sym (div-add-mod' r (width c)) ∙ (ap (router_at (width c)) q ∙ div-add-mod' e (width c))

  module _ (r e : ℕ) (hr : r < routers c) (he : e < routers c) where
    goes_nearer : (r ≡ e → ⊥) → (s : ℕ) × (beyond c r (towards c r e) ≡ s ∷ []) × (distance c s e + 1 ≡ distance c r e)
    unfolding beyond towards distance routers width
    goes_nearer n =
        let w : ℕ = c.timetable.sizes.width in
        let h : ℕ = c.timetable.sizes.height in
        let from : Position = position_of w r in
        let to : Position = position_of w e in
        let some : 0 < w = width_some c r hr in
        let here = position_within w h r some hr in
        let near = routes.nearer w h from to w8 h8 here (position_within w h e some he) (λ q. n (same_router r e q)) in
        let next : Position = near.0 in
        let there : position_of w (router_at w next) ≡ next =
        position_router w next (neighbour_back w h from next (c.route from to) here near.1).0.0 in (
          router_at w next,
          ap (λ (o : Option Position). option_to_list (option_map (router_at w) o)) near.1,
          ap (λ (p : Position). hops p to + 1) there ∙ near.2,
        )

    only_arrived : towards c r e ≡ 4 → r ≡ e
    unfolding towards routers width
    only_arrived q =
        let w : ℕ = c.timetable.sizes.width in
        let h : ℕ = c.timetable.sizes.height in
        let some : 0 < w = width_some c r hr in
        same_router r e
        (routes.only_arrived w h (position_of w r) (position_of w e) w8 h8 (position_within w h r some hr)
        (position_within w h e some he) q)

  arrived : (r : ℕ) → r < routers c → towards c r r ≡ 4
  unfolding towards routers width
  arrived r hr =
      let w : ℕ = c.timetable.sizes.width in
      let h : ℕ = c.timetable.sizes.height in
      routes.arrived w h (position_of w r) w8 h8 (position_within w h r (width_some c r hr) hr)

  lawful : {bits : ℕ} → Arbitrates bits c.choose → Lawful c
  lawful arbitrates = record {
    wins = arbitrates.winner_asks;
    only_arrived = only_arrived;
    arrived = arrived;
    nearer = goes_nearer;
  }

-- a domain that some slots name is named by one
some_slot : (slots : List ℕ) (d : ℕ) → 1 ≤ share slots d → (k : ℕ) × (k < length slots) × (get_or slots k 0 ≡ d)
some_slot [] d h = absurd (omega arith)
some_slot (x ∷ slots) d h = ⊎_elim (λ (e : x ≡ d). (0, omega arith, e))
    (λ (n : x ≡ d → ⊥). let r = some_slot slots d (grind arith) in (suc r.0, omega (arith, r.1), r.2)) (cases_eq x d)

module _ (c : Machine) (period : ℕ) (counted : length c.timetable.slots ≡ period) where
  turn_of : DomainsHaveSlots (domains c) c.timetable.slots → (d : ℕ) → d < domains c
      → (k : ℕ) × (k < length c.timetable.slots) × (turns.turn c.timetable.slots k ≡ d)
  turn_of shared d h =
      let s = some_slot c.timetable.slots d (shared d h) in
      (s.0, s.1, ap (λ (j : ℕ). get_or c.timetable.slots j 0) (mod-eq_of_lt s.1) ∙ s.2)

  wave_of : WaveRule c.timetable.sizes period c.timetable.offsets → (from side to : ℕ) → from < routers c → side < 4
      → beyond c from side ≡ to ∷ []
      → (offset c.timetable.offsets to side + hop c) % length c.timetable.slots
      ≡ offset c.timetable.offsets from side % length c.timetable.slots
  unfolding beyond routers hop width
  wave_of wave from side to h l b =
      rw counted (wave (record { from = from; side = side; to = to; from_inside = h; side_outward = l; leads = some_of_list _ to b }))

  owned : 0 < period → SlotsNameDomains (domains c) c.timetable.slots → (r p t : ℕ) → owner c r p t < domains c
  unfolding owner
  owned some named r p t = named _ (mod-lt _ (omega (arith, counted)))

-- an array that is the padding of its own front is as long as it was padded to
slots_length : (plan : Plan) → length (take plan.period plan.slots) ≡ plan.period
slots_length plan =
    let front : List ℕ = take plan.period plan.slots in
    let whole : length plan.slots ≡ length front + (64 - length front) =
    ap length plan.slots_clear ∙ simp (length-append, length-replicate) in
    length-take-le plan.period plan.slots (omega (arith, length-take plan.period plan.slots, plan.slotted.1))

pub kept : (plan : Plan) (bits : ℕ) (choose : ℕ → ℕ → ℕ × ℕ) (route : Position → Position → ℕ) → Arbitrates bits choose → Routes route
    → Kept (machine plan choose route)
unfolding hop depth domains routers
kept plan bits choose route arbitrates routes =
    let c : Machine = machine plan choose route in
    record {
      lawful = lawful c routes plan.width.1 plan.height.1 arbitrates;
      timed = record {
        wave = wave_of c plan.period (slots_length plan) plan.wave;
        turn = turn_of c plan.period (slots_length plan) plan.shared;
      };
      hop_some = plan.hop.0;
      depth_some = plan.depth.0;
      domains_some = plan.domains.0;
      routers_some = mul-pos plan.width.0 plan.height.0;
      owned = owned c plan.period (slots_length plan) plan.slotted.0 plan.named;
    }
