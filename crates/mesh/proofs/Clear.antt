-- What the moves of a cycle read is not written.
use Rattle.std.proofs.Common.{◌≡◌, ℕ, ◌+◌, ◌-◌, ◌*◌, ◌/◌, ◌%◌, ◌^◌, ◌<◌, ◌≤◌, Bool, true, false, cond, ◌&&◌, eqb, ltb, leb, ◌⊎◌, List, length, get_or, take, replicate, Some, None, Option, sym, refl, ap, ◌∙◌, subst, inl, inr, ⊎_elim, mod-eq_of_lt, arith, is_some, unwrap_or}
use lib.Arith.{digits_div, digits_mod}
use native.Mathlib.Nat.{mod-eq-sub-mod}
use Rattle.std.proofs.lemmas.List.{length-replicate, get_or_past, get_or-take, length-take-le, get_or-replicate}
use Rattle.std.proofs.lemmas.Bool.{cases_lt, true≢false, ltb-true, and_parts, eqb-true, or_cases, cond_both}
use Rattle.mesh.specs.Heads.{Outset, Fit, ports, queue_count, no_queue, head_place, head, head_side, asking_set, asker, asks}
use Rattle.mesh.specs.Ports.{move_at, no_move, passes_at, moves, move_of, move_in, chosen, room, owner, across, passes}
use Rattle.mesh.specs.After.{landing, arriving, arriving_by, passing}
use Rattle.mesh.proofs.Edited.{getD_edit, length_edit, getD_edit_past}
use Rattle.std.proofs.lemmas.Nat.{div-add-mod'}
use Rattle.mesh.specs.declared.moves.Move.{Move}
use Rattle.mesh.proofs.Chosen.{move_cases}
use Rattle.mesh.proofs.Masks.{mask_lt, mask_bit}
use Rattle.mesh.proofs.Index.{ports_le, side_queue_in, place_in, place_count_pos, queue_port_in}
use Rattle.mesh.specs.Orderly.{Orderly, source}
use Rattle.mesh.proofs.Cut.{none_from, cut_all}
use Rattle.mesh.proofs.Owners.{owner_below}
use Rattle.mesh.proofs.Across.{some_of, across_back, across_local}

-- a table of 320 ports that pass nothing has none everywhere
idle_all : (k : ℕ) → get_or {A = Option Move} (replicate 320 None) k None ≡ None
idle_all k = ⊎_elim (λ (h : k < 320). get_or-replicate {A = Option Move} 320 k None None h)
    (λ (h : 320 ≤ k). get_or_past {X = Option Move} (replicate 320 None) k None (rw (length-replicate {A = Option Move} 320 None) h)) (cases_lt k 320)

pub bit_true : (b : Bool) → ◌≡◌ {A = ℕ} (cond b 1 0) 1 → b ≡ true
bit_true true e = refl
bit_true false e = absurd (omega arith)

last_part : (x y : Bool) (a b : ℕ) → (x && (y && eqb a b)) ≡ true → a ≡ b
last_part x y a b e = eqb-true a b (and_parts y (eqb a b) (and_parts x (y && eqb a b) e).1).1

-- what each port of the plan does
abbrev pub made : Outset → (ℕ → ℕ → (ℕ × ℕ)) → List ℕ → List (Option Move)
made v choose words = take (ports v.plan) (moves v choose words)

module _ (v : Outset) (choose : ℕ → ℕ → (ℕ × ℕ)) (words : List ℕ) where
  -- the moves of the plan's ports, one after the other
  pub made_length : length (made v choose words) ≡ ports v.plan
  unfolding moves
  made_length =
      let n = ports_le v.plan in
      length-take-le (ports v.plan) _ (rw (length_edit (ports v.plan) (chosen v choose words) (replicate 320 None), length-replicate {A = Option Move} 320 None) n)

  pub made_at : (k : ℕ) → k < ports v.plan → get_or (made v choose words) k None ≡ move_of v choose words k
  unfolding chosen moves
  made_at k h =
      let n = ports_le v.plan in
      let l : k < length {A = Option Move} (replicate 320 None) = rw (length-replicate {A = Option Move} 320 None) (omega arith) in
      get_or-take (ports v.plan) (moves v choose words) k None h
      ∙ getD_edit (ports v.plan) (chosen v choose words) (replicate 320 None) k None h l

  pub move_past : (k : ℕ) → ports v.plan ≤ k → get_or (made v choose words) k None ≡ None
  move_past k h = get_or_past (made v choose words) k None (rw made_length h)

  -- past the plan's ports the whole table has none
  pub moves_past : (k : ℕ) → ports v.plan ≤ k → get_or (moves v choose words) k None ≡ None
  unfolding moves
  moves_past k h = getD_edit_past (ports v.plan) (chosen v choose words) (replicate 320 None) k None h ∙ idle_all k

  -- so both tables have the same entries
  pub made_is : (k : ℕ) → get_or (made v choose words) k None ≡ get_or (moves v choose words) k None
  made_is k = cut_all v.plan (moves v choose words) moves_past k

  module _ (fit : Fit v.plan v.queues v.places) (within : (word set : ℕ) → 0 < set → set < 32 → (choose word set).0 < 5)
      (wins : (word set : ℕ) → 0 < set → set < 32 → set / 2 ^ (choose word set).0 % 2 ≡ 1) where
    -- a port that passes a packet: there is room, and it takes the first packet of a queue that asks for it
    pub record Passed (j : ℕ) : Type 0 where
      pub owns : (move_at (made v choose words) j).owner < v.plan.sizes.domains
      pub won : (move_at (made v choose words) j).winner < 5
      pub free : room v.plan v.queues j (move_at (made v choose words) j).owner ≡ true
      pub asked : asks v (j / 5) (source v.plan (made v choose words) j) (j % 5) ≡ true
      pub takes : (move_at (made v choose words) j).from ≡ head_place v (source v.plan (made v choose words) j)

    went : (j d : ℕ) → j < ports v.plan → d ≡ owner v.plan v.cycle j → 0 < asking_set v (j / 5) (j % 5) d
        → room v.plan v.queues j d ≡ true →
        (m : Option Move) → get_or (made v choose words) j None ≡ m →
        (word : ℕ) → Some (passes v.plan v.queues v.places d (choose word (asking_set v (j / 5) (j % 5) d)).0
        (choose word (asking_set v (j / 5) (j % 5) d)).1
        ((j / 5 * 5 + (choose word (asking_set v (j / 5) (j % 5) d)).0) * v.plan.sizes.domains + d)) ≡ m → Passed j
    went j d h is some room_is m at word eq =
        let set = asking_set v (j / 5) (j % 5) d in
        let w = (choose word set).0 in
        let few : set < 32 = mask_lt (asker v (j / 5) (j % 5) d) 5 in
        let low_side : w < 5 = within word set some few in
        let low : d < v.plan.sizes.domains = rw is (owner_below v.plan v.cycle j) in
        let bit = sym (mask_bit (asker v (j / 5) (j % 5) d) 5 w low_side) ∙ wins word set some few in
        let yes : asker v (j / 5) (j % 5) d w ≡ true = bit_true (asker v (j / 5) (j % 5) d w) bit in
        let all = at ∙ sym eq in
        let o : (move_at (made v choose words) j).owner ≡ d = ap (λ (x : Option Move). (unwrap_or x no_move).owner) all in
        let i : (move_at (made v choose words) j).winner ≡ w = ap (λ (x : Option Move). (unwrap_or x no_move).winner) all in
        record {
          owns = rw o low;
          won = rw i low_side;
          free = rw o room_is;
          asked = rw (o, i) yes;
          takes = rw (o, i) (ap (λ (x : Option Move). (unwrap_or x no_move).from) all);
        }

    idle_or_passed : (j : ℕ) → (get_or (made v choose words) j None ≡ None) ⊎ ((j < ports v.plan) × Passed j)
    idle_or_passed j =
        ⊎_elim (λ (h : j < ports v.plan).
        let d = owner v.plan v.cycle j in
        let at : get_or (made v choose words) j None ≡ move_in v choose words j d = made_at j h in
        ⊎_elim (λ no. inl (at ∙ sym no))
        (λ yes. inr (
          h,
          went j d h refl yes.0 yes.1 (move_in v choose words j d) at (get_or words (j * v.plan.sizes.domains + d) 0)
              yes.2,
        ))
        (move_cases v choose words j d))
        (λ (h : ports v.plan ≤ j). inl (move_past j h))
        (cases_lt j (ports v.plan))

    pub passed : (j : ℕ) → passes_at (made v choose words) j ≡ true → (j < ports v.plan) × Passed j
    passed j e = ⊎_elim (λ no. absurd (true≢false (sym e ∙ ap (λ (m : Option Move). is_some m) no))) (λ yes. yes) (idle_or_passed j)

    -- the queue that port j takes from: it is in the mesh, its router is the port's, and it is not empty
    pub queue_of : (j : ℕ) → j < ports v.plan → Passed j → source v.plan (made v choose words) j < queue_count v.plan
    queue_of j h p = side_queue_in v.plan j (move_at (made v choose words) j).winner (move_at (made v choose words) j).owner h
        p.won p.owns

    router_of : (j : ℕ) → Passed j → source v.plan (made v choose words) j / v.plan.sizes.domains / 5 ≡ j / 5
    router_of j p = ap (λ n. n / 5) (digits_div (j / 5 * 5 + (move_at (made v choose words) j).winner) p.owns)
        ∙ digits_div (j / 5) p.won

    pub some_of_queue : (j : ℕ) → Passed j → 0 < (get_or v.queues (source v.plan (made v choose words) j) no_queue).count
    unfolding asks
    some_of_queue j p = ltb-true _ _ (and_parts _ _ p.asked).0

    froms : (k : ℕ) → (move_at (made v choose words) k).from < queue_count v.plan * v.plan.sizes.depth
    froms k = ⊎_elim
        (λ no. let z : (move_at (made v choose words) k).from ≡ 0 = ap (λ (m : Option Move). (unwrap_or m no_move).from) no in rw z (place_count_pos v.plan))
        (λ yes.
        let q = source v.plan (made v choose words) k in
        let h = queue_of k yes.0 yes.1 in
        rw yes.1.takes (place_in v.plan q (get_or v.queues q no_queue).first h (fit.firsts q h)))
        (idle_or_passed k)

    -- a packet asks for one port
    asks_one : (r q p p' : ℕ) → asks v r q p ≡ true → asks v r q p' ≡ true → p ≡ p'
    unfolding asks
    asks_one r q p p' a b =
        let s = head_side v r q in
        let y = leb (head v q).ready v.cycle in
        let x = ltb 0 (get_or v.queues q no_queue).count in
        sym (last_part x y s p a) ∙ last_part x y s p' b

    sole : (j k : ℕ) → passes_at (made v choose words) j ≡ true → passes_at (made v choose words) k ≡ true
        → source v.plan (made v choose words) j ≡ source v.plan (made v choose words) k → j ≡ k
    sole j k a b e =
        let p = (passed j a).1 in
        let q = (passed k b).1 in
        let router : k / 5 ≡ j / 5 = sym (router_of k q) ∙ ap (λ n. n / v.plan.sizes.domains / 5) (sym e) ∙ router_of j p in
        let Q : ℕ → Type 0 = λ r. asks v r (source v.plan (made v choose words) j) (k % 5) ≡ true in
        let R : ℕ → Type 0 = λ n. asks v (k / 5) n (k % 5) ≡ true in
        let port = asks_one (j / 5) (source v.plan (made v choose words) j) (j % 5) (k % 5) p.asked
        (subst Q router (subst R (sym e) q.asked)) in
        let x = div-add-mod' j 5 in
        let y = div-add-mod' k 5 in
        omega arith

    -- what arrives in queue q
    arrived_by : (d : ℕ) (o : Option ℕ) (j : ℕ) → arriving_by (made v choose words) d o ≡ Some j → (o ≡ Some j)
        × (passing (made v choose words) j d ≡ true)
    arrived_by d None j e = absurd (let z : ◌≡◌ {A = ℕ} 0 1 = cc in omega arith)
    arrived_by d (Some i) j e =
        let s = some_of (passing (made v choose words) i d) i j e in
        let P : ℕ → Type 0 = λ n. passing (made v choose words) n d ≡ true in
        (ap Some s.1, subst P s.1 s.0)

    arrived : (q j : ℕ) → arriving v.plan (made v choose words) q ≡ Some j →
        (passes_at (made v choose words) j ≡ true) × ((move_at (made v choose words) j).owner ≡ q % v.plan.sizes.domains)
        × (across v.plan (q / v.plan.sizes.domains) ≡ Some j)
    unfolding arriving
    arrived q j e =
        let a = arrived_by (q % v.plan.sizes.domains) (across v.plan (q / v.plan.sizes.domains)) j e in
        let p = and_parts _ _ a.1 in
        (p.0, eqb-true _ _ p.1, a.0)

    -- a queue into which a packet comes is not full
    not_full : (q j : ℕ) → q < queue_count v.plan → arriving v.plan (made v choose words) q ≡ Some j
        → (get_or v.queues q no_queue).count < v.plan.sizes.depth
    unfolding room
    not_full q j h e =
        let a = arrived q j e in
        let p = (passed j a.0).1 in
        let b : across v.plan j ≡ Some (q / v.plan.sizes.domains) =
        across_back v.plan (q / v.plan.sizes.domains) j (queue_port_in v.plan q h) a.2 in
        let same : q / v.plan.sizes.domains * v.plan.sizes.domains + q % v.plan.sizes.domains ≡ q =
        div-add-mod' q v.plan.sizes.domains in
        let free = rw (b, a.1, same) at p.free in
        ⊎_elim
        (λ (l : eqb (j % 5) 4 ≡ true). absurd
        (let f = across_local v.plan j (eqb-true _ _ l) in let z : ◌≡◌ {A = ℕ} 0 1 = cc in omega arith))
        (λ r. ltb-true _ _ r)
        (or_cases _ _ free)

    -- in a queue that is neither empty nor full the first free place is not the first
    ring : (first count b : ℕ) → first < b → 0 < count → count < b → first ≡ (first + count) % b → ⊥
    ring first count b f some few e = ⊎_elim
        (λ (l : first + count < b). let m = mod-eq_of_lt l in omega arith)
        (λ (l : b ≤ first + count). let m = mod-eq-sub-mod l in let k : first + count - b < b = omega arith in let n = mod-eq_of_lt k in
        omega arith)
        (cases_lt (first + count) b)

    clear : (j : ℕ) → passes_at (made v choose words) j ≡ true
        → landing v.plan v.queues (made v choose words) (move_at (made v choose words) j).from ≡ None
    unfolding landing
    clear j e =
        let h = (passed j e).0 in
        let p = (passed j e).1 in
        let q = source v.plan (made v choose words) j in
        let x = get_or v.queues q no_queue in
        let in_mesh = queue_of j h p in
        let first = fit.firsts q in_mesh in
        let at : (move_at (made v choose words) j).from / v.plan.sizes.depth ≡ q = ap (λ n. n / v.plan.sizes.depth) p.takes
        ∙ digits_div q first in
        let slot : (move_at (made v choose words) j).from % v.plan.sizes.depth ≡ x.first =
        ap (λ n. n % v.plan.sizes.depth) p.takes ∙ digits_mod q first in
        let P : Option ℕ → Type 0 = λ o. o ≡ None in
        rw (at, slot) (cond_both (eqb x.first ((x.first + x.count) % v.plan.sizes.depth))
        (arriving v.plan (made v choose words) q) None P
        (λ t. none_from (arriving v.plan (made v choose words) q)
        (λ i f. ring x.first x.count v.plan.sizes.depth first (some_of_queue j p) (not_full q i in_mesh f) (eqb-true _ _ t)))
        (λ _. refl))

    pub orderly : Orderly v.plan v.queues (made v choose words)
    orderly = record {
      owns = λ k. ⊎_elim (λ no. rw no v.plan.domains.0) (λ yes. yes.1.owns) (idle_or_passed k);
      wins = λ k. ⊎_elim (λ no. rw no (omega arith)) (λ yes. yes.1.won) (idle_or_passed k);
      some = λ k e. some_of_queue k (passed k e).1;
      sole = sole;
      froms = froms;
      clear = clear;
    }
