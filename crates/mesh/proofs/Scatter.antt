-- Tables into which the moves of the ports below n have been made, and what one more move does.
use Rattle.std.proofs.Common.{◌≡◌, ℕ, ◌+◌, ◌-◌, ◌*◌, ◌/◌, ◌%◌, ◌<◌, ◌≤◌, Bool, true, false, cond, eqb, List, [], length, get_or, take, set, Some, None, Option, sym, refl, ap, ◌∙◌, subst, ⊎_elim, arith, is_some, unwrap_or}
use native.Mathlib.Nat.{sub-zero, mod-add-mod}
use lib.Arith.{digits_div, digits_mod}
use Rattle.std.proofs.Math.Seq.{take-length}
use Rattle.std.proofs.lemmas.List.{get_or_default}
use Rattle.std.proofs.lemmas.Nat.{div-add-mod', mod_below}
use Rattle.std.proofs.lemmas.Bool.{cases_Bool, true≢false, and_from, eqb-true, eq-eqb, cond_both}
use Rattle.schedule.specs.declared.plan.Plan.{Plan}
use Rattle.machine.specs.declared.tables.Queue.{Queue}
use Rattle.machine.specs.declared.tables.Place.{Place}
use Rattle.mesh.specs.declared.moves.Move.{Move}
use Rattle.mesh.specs.Heads.{no_queue, no_place, ports, queue_count}
use Rattle.machine.specs.Moves.{edit}
use Rattle.mesh.specs.Ports.{no_move, move_at, passes_at, across}
use Rattle.mesh.specs.After.{one, passing, arriving, leaving, landing, word_after, place_by, place_after, payload_by}
use Rattle.mesh.specs.After.{payload_after, queue_after}
use Rattle.mesh.specs.Orderly.{Orderly, source, end_place}
use Rattle.mesh.proofs.Cut.{taken, leaves, cut_other, cut_here, cut_passes, passing_same, arriving_same, arriving_here}
use Rattle.mesh.proofs.Cut.{arriving_all, arriving_not, arriving_less, arriving_none, cut_all, leaving_all, leaving_none}
use Rattle.mesh.proofs.Cases.{bool_same}
use Rattle.mesh.proofs.Edited.{edit_at, edit_like, getD_edit}
use Rattle.mesh.proofs.Across.{across_back}
use Rattle.mesh.proofs.Index.{queue_in, side_queue_in, queue_port_in, place_in, place_queue_in}

-- whether place s is the first free one of its queue
abbrev at_end : Plan → List Queue → ℕ → Bool
at_end plan queues s =
    eqb (s % plan.sizes.depth)
    (((get_or queues (s / plan.sizes.depth) no_queue).first + (get_or queues (s / plan.sizes.depth) no_queue).count) % plan.sizes.depth)

at_end_place : (plan : Plan) (queues : List Queue) (s q : ℕ) → at_end plan queues s ≡ true → s / plan.sizes.depth ≡ q
    → s ≡ end_place plan queues q
at_end_place plan queues s q t e = sym (div-add-mod' s plan.sizes.depth)
    ∙ ap (λ n. s / plan.sizes.depth * plan.sizes.depth + n) (eqb-true _ _ t) ∙ ap (end_place plan queues) e

unfoldable pub word_part : Plan → List (Option Move) → ℕ → ℕ → ℕ → ℕ
word_part plan ms n q x =
    cond (passing (take n ms) (q / plan.sizes.domains) (q % plan.sizes.domains)) (move_at ms (q / plan.sizes.domains)).next x

unfoldable pub place_part : Plan → ℕ → List Queue → List (Option Move) → ℕ → ℕ → Place → Place
place_part plan t queues ms n s x = place_by plan t ms (landing plan queues (take n ms) s) x

unfoldable pub payload_part : {P : Type 0} → Plan → List Queue → List (Option Move) → List P → ℕ → ℕ → P → P
payload_part plan queues ms old n s x = payload_by ms old (landing plan queues (take n ms) s) x

-- the moves of the ports below n have left their queues, those of the ports below m have joined theirs
unfoldable pub queue_part : Plan → List (Option Move) → ℕ → ℕ → ℕ → Queue → Queue
queue_part plan ms n m q x = record {
  first = cond (leaving plan (take n ms) q) ((x.first + 1) % plan.sizes.depth) x.first;
  count = (x.count + one (arriving plan (take m ms) q)) - cond (leaving plan (take n ms) q) 1 0;
}

queue_eq : (a b : Queue) → a.first ≡ b.first → a.count ≡ b.count → a ≡ b
queue_eq a b f c = λ i. record { first = f i; count = c i }

split : (plan : Plan) (q k d : ℕ) → q / plan.sizes.domains ≡ k → d ≡ q % plan.sizes.domains → q ≡ k * plan.sizes.domains + d
split plan q k d e f = sym (div-add-mod' q plan.sizes.domains) ∙ rw (e, f) refl

some_inj : (o : Option ℕ) (i j : ℕ) → o ≡ Some i → o ≡ Some j → i ≡ j
some_inj o i j a b = cc

some_none : (o : Option ℕ) (i : ℕ) → o ≡ Some i → o ≡ None → ⊥
some_none o i a b = let z : ◌≡◌ {A = ℕ} 0 1 = cc in omega arith

both : (b : Bool) → b ≡ true → b ≡ false → ⊥
both b e f = true≢false (sym e ∙ f)

-- a table of the plan's ports alone is its own front
module _ (plan : Plan) (ms : List (Option Move)) (exact : length ms ≡ ports plan) where
  whole : take (ports plan) ms ≡ ms
  whole = ap (λ n. take n ms) (sym exact) ∙ take-length ms

-- the moves of all ports
module _ (plan : Plan) (queues : List Queue) (ms : List (Option Move)) (past : (j : ℕ) → ports plan ≤ j → get_or ms j None ≡ None) where
  landing_all : (s : ℕ) → landing plan queues (take (ports plan) ms) s ≡ landing plan queues ms s
  unfolding landing
  landing_all s = rw (arriving_all plan ms past (s / plan.sizes.depth)) refl

  pub word_all : (q x : ℕ) → word_part plan ms (ports plan) q x ≡ word_after plan ms q x
  unfolding word_part word_after
  word_all q x = rw (cut_all plan ms past (q / plan.sizes.domains)) refl

  pub place_all : (t s : ℕ) (x : Place) → place_part plan t queues ms (ports plan) s x ≡ place_after plan t queues ms s x
  unfolding place_part place_after
  place_all t s x = rw (landing_all s) refl

  pub payload_all : {P : Type 0} (old : List P) (s : ℕ) (x : P)
      → payload_part plan queues ms old (ports plan) s x ≡ payload_after plan queues ms old s x
  unfolding payload_part payload_after
  payload_all old s x = rw (landing_all s) refl

  pub queue_all : (q : ℕ) (x : Queue) → queue_part plan ms (ports plan) (ports plan) q x ≡ queue_after plan ms q x
  unfolding queue_part queue_after
  queue_all q x = rw (arriving_all plan ms past q, leaving_all plan ms past q) refl

-- no move
module _ (plan : Plan) (queues : List Queue) (ms : List (Option Move)) where
  landing_none : (s : ℕ) → landing plan queues [] s ≡ None
  unfolding landing
  landing_none s =
      rw (arriving_none plan ms (s / plan.sizes.depth))
      (elim (eqb (s % plan.sizes.depth)
      (((get_or queues (s / plan.sizes.depth) no_queue).first + (get_or queues (s / plan.sizes.depth) no_queue).count) % plan.sizes.depth))
      as (λ (b : Bool). cond {A = Option ℕ} b None None ≡ None) [ true ↦ refl | false ↦ refl ])

  pub word_none : (q x : ℕ) → word_part plan ms 0 q x ≡ x
  unfolding word_part
  word_none q x = refl

  pub place_none : (t s : ℕ) (x : Place) → place_part plan t queues ms 0 s x ≡ x
  unfolding place_part
  place_none t s x = rw (landing_none s) refl

  pub payload_none : {P : Type 0} (old : List P) (s : ℕ) (x : P) → payload_part plan queues ms old 0 s x ≡ x
  unfolding payload_part
  payload_none old s x = rw (landing_none s) refl

  pub queue_none : (q : ℕ) (x : Queue) → queue_part plan ms 0 0 q x ≡ x
  unfolding queue_part
  queue_none q x =
      let l = leaving_none plan ms q in
      let n : x.count + 0 - 0 ≡ x.count = omega arith in
      rw (arriving_none plan ms q, l) (queue_eq _ _ refl n)

  landing_less : (n s : ℕ) → landing plan queues ms s ≡ None → landing plan queues (take n ms) s ≡ None
  unfolding landing
  landing_less n s e = ⊎_elim
      (λ (t : at_end plan queues s ≡ true). rw t (arriving_less plan ms n (s / plan.sizes.depth) (rw t at e)))
      (λ (t : at_end plan queues s ≡ false). rw t refl)
      (cases_Bool (at_end plan queues s))

-- a move that is made, as the table has it
pub made : (ms : List (Option Move)) (k : ℕ) (m : Move) → get_or ms k None ≡ Some m → (passes_at ms k ≡ true) × (m ≡ move_at ms k)
made ms k m e = (ap (λ (o : Option Move). is_some o) e, sym (ap (λ (o : Option Move). unwrap_or o no_move) e))

-- the queues that it takes from and passes into
module _ (plan : Plan) (queues : List Queue) (ms : List (Option Move)) (o : Orderly plan queues ms) (k : ℕ) (m : Move) (e : get_or ms k None ≡ Some m) where
  pub takes_from : k < ports plan → (k / 5 * 5 + m.winner) * plan.sizes.domains + m.owner < queue_count plan
  takes_from low = rw (made ms k m e).1 (side_queue_in plan k (move_at ms k).winner (move_at ms k).owner low (o.wins k) (o.owns k))

  pub passes_to : (j : ℕ) → j < ports plan → j * plan.sizes.domains + m.owner < queue_count plan
  passes_to j inside = rw (made ms k m e).1 (queue_in plan j (move_at ms k).owner inside (o.owns k))

-- one move
module _ (plan : Plan) (queues : List Queue) (ms : List (Option Move)) (o : Orderly plan queues ms) (k : ℕ) (low : k < ports plan) where
  abbrev D : ℕ
  D = plan.sizes.domains

  abbrev m : Move
  m = move_at ms k

  -- word
  word_same : (q x : ℕ) → (q ≡ k * D + m.owner → passes_at ms k ≡ true → ⊥) → word_part plan ms (k + 1) q x ≡ word_part plan ms k q x
  unfolding word_part
  word_same q x off = rw (passing_same ms k (q / D) (q % D) (λ e p w. off (split plan q k m.owner e w) p)) refl

  word_here : (x : ℕ) → passes_at ms k ≡ true → word_part plan ms (k + 1) (k * D + m.owner) x ≡ m.next
  unfolding word_part
  word_here x p =
      let a : (k * D + m.owner) / D ≡ k = digits_div k (o.owns k) in
      let b : (k * D + m.owner) % D ≡ m.owner = digits_mod k (o.owns k) in
      let c = cut_here ms k in
      let yes : passing (take (k + 1) ms) k m.owner ≡ true = rw c (and_from _ _ p (eq-eqb _ _ refl)) in
      rw (a, b, yes) refl

  module _ (old cur : List ℕ) (is : cur ≡ edit 0 (queue_count plan) (word_part plan ms k) old) where
    pub words_put : queue_count plan ≤ length old → passes_at ms k ≡ true
        → set cur (k * D + m.owner) m.next ≡ edit 0 (queue_count plan) (word_part plan ms (k + 1)) old
    words_put long p =
        let q = queue_in plan k m.owner low (o.owns k) in
        edit_at (queue_count plan) (word_part plan ms k) (word_part plan ms (k + 1)) old cur (k * D + m.owner) m.next 0 q
        (omega arith) is
        (λ q x h ne. word_same q x (λ e _. ne e)) (sym (word_here (get_or old (k * D + m.owner) 0) p))

    pub words_keep : passes_at ms k ≡ false → cur ≡ edit 0 (queue_count plan) (word_part plan ms (k + 1)) old
    words_keep p = is ∙ edit_like (queue_count plan) (word_part plan ms k) (word_part plan ms (k + 1)) old
        (λ q x h. sym (word_same q x (λ _ e. both (passes_at ms k) e p)))

  -- what comes into queue q
  fed_same : (q : ℕ) → q < queue_count plan → ((j : ℕ) → across plan k ≡ Some j → q ≡ j * D + m.owner → passes_at ms k ≡ true → ⊥)
      → arriving plan (take (k + 1) ms) q ≡ arriving plan (take k ms) q
  fed_same q h off = arriving_same plan ms k q
      (λ a p w. off (q / D) (across_back plan (q / D) k (queue_port_in plan q h) a) (split plan q (q / D) m.owner refl w) p)

  fed_here : (j : ℕ) → across plan k ≡ Some j → passes_at ms k ≡ true → arriving plan (take (k + 1) ms) (j * D + m.owner) ≡ Some k
  fed_here j a p =
      let e : (j * D + m.owner) / D ≡ j = digits_div j (o.owns k) in
      let f : (j * D + m.owner) % D ≡ m.owner = digits_mod j (o.owns k) in
      arriving_here plan ms k (j * D + m.owner) (rw e (across_back plan k j low a)) p (sym f)

  fed_not : (j : ℕ) → across plan k ≡ Some j → arriving plan (take k ms) (j * D + m.owner) ≡ None
  fed_not j a =
      let e : (j * D + m.owner) / D ≡ j = digits_div j (o.owns k) in
      arriving_not plan ms k (j * D + m.owner) (rw e (across_back plan k j low a))

  -- what lands at place s
  landing_same : (s : ℕ) → s < queue_count plan * plan.sizes.depth
      → ((j : ℕ) → across plan k ≡ Some j → s ≡ end_place plan queues (j * D + m.owner) → passes_at ms k ≡ true → ⊥) →
      landing plan queues (take (k + 1) ms) s ≡ landing plan queues (take k ms) s
  unfolding landing
  landing_same s h off = ⊎_elim
      (λ (t : at_end plan queues s ≡ true). rw t
      (fed_same (s / plan.sizes.depth) (place_queue_in plan s h)
      (λ j a e p. off j a (at_end_place plan queues s (j * D + m.owner) t e) p)))
      (λ (t : at_end plan queues s ≡ false). rw t refl)
      (cases_Bool (at_end plan queues s))

  landing_here : (j : ℕ) → across plan k ≡ Some j → passes_at ms k ≡ true
      → landing plan queues (take (k + 1) ms) (end_place plan queues (j * D + m.owner)) ≡ Some k
  unfolding landing
  landing_here j a p =
      let q = j * D + m.owner in
      let x = get_or queues q no_queue in
      let small : (x.first + x.count) % plan.sizes.depth < plan.sizes.depth =
      mod_below (x.first + x.count) plan.sizes.depth plan.depth.0 in
      let e : end_place plan queues q / plan.sizes.depth ≡ q = digits_div q small in
      let f : end_place plan queues q % plan.sizes.depth ≡ (x.first + x.count) % plan.sizes.depth = digits_mod q small in
      let t = eq-eqb ((x.first + x.count) % plan.sizes.depth) ((x.first + x.count) % plan.sizes.depth) refl in
      rw (e, f, t) (fed_here j a p)

  module _ (t : ℕ) (old cur : List Place)
      (is : cur ≡ edit 0 (queue_count plan * plan.sizes.depth) (place_part plan t queues ms k) old) where
    abbrev next_is : Type 0
    next_is = cur ≡ edit 0 (queue_count plan * plan.sizes.depth) (place_part plan t queues ms (k + 1)) old

    place_same : (s : ℕ) (x : Place) → s < queue_count plan * plan.sizes.depth
        → ((j : ℕ) → across plan k ≡ Some j → s ≡ end_place plan queues (j * D + m.owner) → passes_at ms k ≡ true → ⊥) →
        place_part plan t queues ms (k + 1) s x ≡ place_part plan t queues ms k s x
    unfolding place_part
    place_same s x h off = rw (landing_same s h off) refl

    pub places_keep : passes_at ms k ≡ false → next_is
    places_keep p = is ∙ edit_like _ _ (place_part plan t queues ms (k + 1)) old
        (λ s x h. sym (place_same s x h (λ j a e y. both (passes_at ms k) y p)))

    pub places_out : across plan k ≡ None → next_is
    places_out n = is ∙ edit_like _ _ (place_part plan t queues ms (k + 1)) old
        (λ s x h. sym (place_same s x h (λ j a e y. some_none _ j a n)))

    pub places_put : queue_count plan * plan.sizes.depth ≤ length old → passes_at ms k ≡ true → (j : ℕ) → across plan k ≡ Some j
        → j < ports plan →
        (v : Place) → v ≡ record { destination = m.destination; source = m.source; ready = t + plan.sizes.hop } →
        set cur (end_place plan queues (j * D + m.owner)) v
        ≡ edit 0 (queue_count plan * plan.sizes.depth) (place_part plan t queues ms (k + 1)) old
    unfolding place_part
    places_put long p j a inside v e =
        let q = j * D + m.owner in
        let x = get_or queues q no_queue in
        let s = end_place plan queues q in
        let h = place_in plan q ((x.first + x.count) % plan.sizes.depth) (queue_in plan j m.owner inside (o.owns k))
        (mod_below (x.first + x.count) plan.sizes.depth plan.depth.0) in
        edit_at (queue_count plan * plan.sizes.depth) (place_part plan t queues ms k)
        (place_part plan t queues ms (k + 1)) old cur s v no_place h (omega arith) is
        (λ s' x l ne. place_same s' x l (λ i b f y. ne (f ∙ ap (λ n. end_place plan queues (n * D + m.owner)) (some_inj _ i j b a))))
        (e ∙ ap (λ w. place_by plan t ms w (get_or old s no_place)) (sym (landing_here j a p)))

  module _ {P : Type 0} (old cur : List P)
      (is : cur ≡ edit 0 (queue_count plan * plan.sizes.depth) (payload_part plan queues ms old k) old) where
    abbrev paid : Type 0
    paid = cur ≡ edit 0 (queue_count plan * plan.sizes.depth) (payload_part plan queues ms old (k + 1)) old

    payload_same : (s : ℕ) (x : P) → s < queue_count plan * plan.sizes.depth
        → ((j : ℕ) → across plan k ≡ Some j → s ≡ end_place plan queues (j * D + m.owner) → passes_at ms k ≡ true → ⊥) →
        payload_part plan queues ms old (k + 1) s x ≡ payload_part plan queues ms old k s x
    unfolding payload_part
    payload_same s x h off = rw (landing_same s h off) refl

    pub payloads_keep : passes_at ms k ≡ false → paid
    payloads_keep p = is
        ∙ edit_like _ _ (payload_part plan queues ms old (k + 1)) old (λ s x h. sym (payload_same s x h (λ j a e y. both (passes_at ms k) y p)))

    pub payloads_out : across plan k ≡ None → paid
    payloads_out n = is ∙ edit_like _ _ (payload_part plan queues ms old (k + 1)) old
        (λ s x h. sym (payload_same s x h (λ j a e y. some_none _ j a n)))

    -- what is read is still what stood there
    still : queue_count plan * plan.sizes.depth ≤ length old → passes_at ms k ≡ true → (d : P) → get_or cur m.from d ≡ get_or old m.from d
    unfolding payload_part
    still long p d =
        let h = o.froms k in
        ap (λ xs. get_or xs m.from d) is
        ∙ getD_edit (queue_count plan * plan.sizes.depth) (payload_part plan queues ms old k) old m.from d h (omega arith)
        ∙ ap (λ w. payload_by ms old w (get_or old m.from d)) (landing_less plan queues ms k m.from (o.clear k p))

    pub payloads_put : queue_count plan * plan.sizes.depth ≤ length old → passes_at ms k ≡ true → (j : ℕ) → across plan k ≡ Some j
        → j < ports plan →
        (v : P) → v ≡ get_or cur m.from v →
        set cur (end_place plan queues (j * D + m.owner)) v
        ≡ edit 0 (queue_count plan * plan.sizes.depth) (payload_part plan queues ms old (k + 1)) old
    unfolding payload_part
    payloads_put long p j a inside v e =
        let q = j * D + m.owner in
        let x = get_or queues q no_queue in
        let s = end_place plan queues q in
        let h = place_in plan q ((x.first + x.count) % plan.sizes.depth) (queue_in plan j m.owner inside (o.owns k))
        (mod_below (x.first + x.count) plan.sizes.depth plan.depth.0) in
        let f = o.froms k in
        edit_at (queue_count plan * plan.sizes.depth) (payload_part plan queues ms old k)
        (payload_part plan queues ms old (k + 1)) old cur s v v h (omega arith) is
        (λ s' x l ne. payload_same s' x l (λ i b f y. ne (f ∙ ap (λ n. end_place plan queues (n * D + m.owner)) (some_inj _ i j b a))))
        (e ∙ still long p v ∙ get_or_default old m.from v (get_or old s v) (omega arith)
        ∙ ap (λ w. payload_by ms old w (get_or old s v)) (sym (landing_here j a p)))

  -- who leaves queue q
  leaving_same : (q : ℕ) → (q ≡ source plan ms k → passes_at ms k ≡ true → ⊥) → leaving plan (take (k + 1) ms) q ≡ leaving plan (take k ms) q
  leaving_same q off = bool_same _ _
      (λ e.
      let t = taken plan (take (k + 1) ms) q e in
      let j = t.0 in
      let c = (cut_passes ms (k + 1) j t.1.0).1 in
      let ne : j ≡ k → ⊥ = λ s. off (sym t.1.1 ∙ rw c (rw s refl)) (rw s at (rw c at t.1.0)) in
      let f = cut_other ms k j ne in
      leaves plan (take k ms) j q (rw (← f) t.1.0) (rw (← f, c) (o.owns j)) (rw (← f, c) (o.wins j)) (rw (← f) t.1.1))
      (λ e.
      let t = taken plan (take k ms) q e in
      let j = t.0 in
      let p = cut_passes ms k j t.1.0 in
      let l = p.0 in
      let c = p.1 in
      let ne : j ≡ k → ⊥ = λ s. omega arith in
      let f = cut_other ms k j ne in
      leaves plan (take (k + 1) ms) j q (rw f t.1.0) (rw (f, c) (o.owns j)) (rw (f, c) (o.wins j)) (rw f t.1.1))

  leaving_here : passes_at ms k ≡ true → leaving plan (take (k + 1) ms) (source plan ms k) ≡ true
  leaving_here p =
      let c = cut_here ms k in
      leaves plan (take (k + 1) ms) k (source plan ms k) (rw c p) (rw c (o.owns k)) (rw c (o.wins k)) (rw c refl)

  leaving_not : passes_at ms k ≡ true → leaving plan (take k ms) (source plan ms k) ≡ false
  leaving_not p = ⊎_elim
      (λ (e : leaving plan (take k ms) (source plan ms k) ≡ true).
      let t = taken plan (take k ms) (source plan ms k) e in
      let j = t.0 in
      let c = cut_passes ms k j t.1.0 in
      let l = c.0 in
      let f = c.1 in
      let s = o.sole j k (rw f at t.1.0) p (rw f at t.1.1) in
      absurd (omega arith))
      (λ e. e)
      (cases_Bool (leaving plan (take k ms) (source plan ms k)))

  -- a queue that is left is not empty
  left_some : (n q : ℕ) → leaving plan (take n ms) q ≡ true → 0 < (get_or queues q no_queue).count
  left_some n q e =
      let t = taken plan (take n ms) q e in
      let j = t.0 in
      let f = (cut_passes ms n j t.1.0).1 in
      let P : ℕ → Type 0 = λ q. 0 < (get_or queues q no_queue).count in
      subst P (rw f at t.1.1) (o.some j (rw f at t.1.0))

  source_in : source plan ms k < queue_count plan
  source_in = side_queue_in plan k m.winner m.owner low (o.wins k) (o.owns k)

  module _ (long : queue_count plan ≤ length queues) (cur : List Queue) where
    module _ (is : cur ≡ edit 0 (queue_count plan) (queue_part plan ms k k) queues) where
      -- the queue that is left, as it stands
      pub queues_from : passes_at ms k ≡ true →
          ((get_or cur (source plan ms k) no_queue).first ≡ (get_or queues (source plan ms k) no_queue).first)
          × ((get_or cur (source plan ms k) no_queue).count
          ≡ (get_or queues (source plan ms k) no_queue).count + one (arriving plan (take k ms) (source plan ms k)))
      unfolding queue_part
      queues_from p =
          let q = source plan ms k in
          let h : q < queue_count plan = source_in in
          let at = ap (λ xs. get_or xs q no_queue) is
          ∙ getD_edit (queue_count plan) (queue_part plan ms k k) queues q no_queue h (omega arith) in
          let l = leaving_not p in
          (ap (λ (x : Queue). x.first) at ∙ rw l refl, ap (λ (x : Queue). x.count) at ∙ rw l (sub-zero _))

      pub queues_keep : passes_at ms k ≡ false → cur ≡ edit 0 (queue_count plan) (queue_part plan ms (k + 1) (k + 1)) queues
      unfolding queue_part
      queues_keep p = is ∙ edit_like (queue_count plan) (queue_part plan ms k k) (queue_part plan ms (k + 1) (k + 1)) queues
          (λ q x h. rw (fed_same q h (λ j a e y. both (passes_at ms k) y p), leaving_same q (λ e y. both (passes_at ms k) y p)) refl)

      pub queues_leave : passes_at ms k ≡ true → (v : Queue) → v.first ≡ ((get_or cur (source plan ms k) no_queue).first + 1) % plan.sizes.depth
          → v.count ≡ (get_or cur (source plan ms k) no_queue).count - 1 →
          set cur (source plan ms k) v ≡ edit 0 (queue_count plan) (queue_part plan ms (k + 1) k) queues
      unfolding queue_part
      queues_leave p v f c =
          let q = source plan ms k in
          let h : q < queue_count plan = source_in in
          let at = queues_from p in
          let l = leaving_here p in
          edit_at (queue_count plan) (queue_part plan ms k k) (queue_part plan ms (k + 1) k) queues cur q v no_queue h (omega arith) is
          (λ q x h ne. rw (leaving_same q (λ e y. ne e)) refl)
          (queue_eq _ _ (rw l (f ∙ ap (λ n. (n + 1) % plan.sizes.depth) at.0)) (rw l (c ∙ ap (λ n. n - 1) at.1)))

    module _ (is : cur ≡ edit 0 (queue_count plan) (queue_part plan ms (k + 1) k) queues) where
      pub queues_out : across plan k ≡ None → cur ≡ edit 0 (queue_count plan) (queue_part plan ms (k + 1) (k + 1)) queues
      unfolding queue_part
      queues_out n = is ∙ edit_like (queue_count plan) (queue_part plan ms (k + 1) k) (queue_part plan ms (k + 1) (k + 1)) queues
          (λ q x h. rw (fed_same q h (λ j a e y. some_none _ j a n)) refl)

      -- the queue that is joined, as it stands
      pub queues_to : (j : ℕ) → across plan k ≡ Some j → j < ports plan →
          get_or cur (j * D + m.owner) no_queue ≡ queue_part plan ms (k + 1) k (j * D + m.owner) (get_or queues (j * D + m.owner) no_queue)
      queues_to j a inside =
          let q = j * D + m.owner in
          let h = queue_in plan j m.owner inside (o.owns k) in
          ap (λ xs. get_or xs q no_queue) is ∙ getD_edit (queue_count plan) (queue_part plan ms (k + 1) k) queues q no_queue h (omega arith)

      pub queues_few : (j : ℕ) → across plan k ≡ Some j → j < ports plan
          → (get_or cur (j * D + m.owner) no_queue).count ≤ (get_or queues (j * D + m.owner) no_queue).count
      unfolding queue_part
      queues_few j a inside =
          let e = ap (λ (x : Queue). x.count) (queues_to j a inside) in
          let n = fed_not j a in
          rw (e, n) (omega arith)

      pub queues_join : passes_at ms k ≡ true → (j : ℕ) → across plan k ≡ Some j → j < ports plan → (v : Queue) →
          v.first ≡ (get_or cur (j * D + m.owner) no_queue).first → v.count ≡ (get_or cur (j * D + m.owner) no_queue).count + 1 →
          set cur (j * D + m.owner) v ≡ edit 0 (queue_count plan) (queue_part plan ms (k + 1) (k + 1)) queues
      unfolding queue_part
      queues_join p j a inside v f c =
          let q = j * D + m.owner in
          let x = get_or queues q no_queue in
          let h = queue_in plan j m.owner inside (o.owns k) in
          let at = queues_to j a inside in
          let n = fed_not j a in
          let y = fed_here j a p in
          let few : (b : Bool) → (b ≡ true → 0 < x.count) → x.count + 0 - cond b 1 0 + 1 ≡ x.count + 1 - cond b 1 0 = λ b. elim b
          as (λ (b : Bool). (b ≡ true → 0 < x.count)
          → x.count + 0 - cond b 1 0 + 1 ≡ x.count + 1 - cond b 1 0)
          [ true ↦ (λ w. let z = w refl in omega arith) | false ↦ (λ w. omega arith) ] in
          edit_at (queue_count plan) (queue_part plan ms (k + 1) k) (queue_part plan ms (k + 1) (k + 1)) queues cur q v no_queue h
          (omega arith) is
          (λ q x h ne. rw (fed_same q h (λ i b e _. ne (e ∙ ap (λ n. n * D + m.owner) (some_inj _ i j b a)))) refl)
          (queue_eq _ _ (f ∙ ap (λ (x : Queue). x.first) at)
          (c ∙ ap (λ (x : Queue). x.count + 1) at ∙ rw (n, y) (few (leaving plan (take (k + 1) ms) q) (left_some (k + 1) q))))

      pub queues_low : (j : ℕ) → across plan k ≡ Some j → j < ports plan
          → (get_or queues (j * D + m.owner) no_queue).first < plan.sizes.depth
          → (get_or cur (j * D + m.owner) no_queue).first < plan.sizes.depth
      unfolding queue_part
      queues_low j a inside low' =
          let q = j * D + m.owner in
          let x = get_or queues q no_queue in
          let e = ap (λ (x : Queue). x.first) (queues_to j a inside) in
          let P : ℕ → Type 0 = λ n. n < plan.sizes.depth in
          rw e (cond_both (leaving plan (take (k + 1) ms) q) ((x.first + 1) % plan.sizes.depth) x.first P
          (λ _. mod_below (x.first + 1) plan.sizes.depth plan.depth.0) (λ _. low'))

      -- its first free place is where it was
      pub queues_end : (j : ℕ) → across plan k ≡ Some j → j < ports plan
          → end_place plan cur (j * D + m.owner) ≡ end_place plan queues (j * D + m.owner)
      unfolding queue_part
      queues_end j a inside =
          let q = j * D + m.owner in
          let x = get_or queues q no_queue in
          let b = plan.sizes.depth in
          let n = fed_not j a in
          let at = queues_to j a inside in
          let stays : (l : Bool) → (l ≡ true → 0 < x.count)
          → (cond l ((x.first + 1) % b) x.first + (x.count + 0 - cond l 1 0)) % b ≡ (x.first + x.count) % b = λ l. elim l
          as (λ (l : Bool). (l ≡ true → 0 < x.count)
          → (cond l ((x.first + 1) % b) x.first + (x.count + 0 - cond l 1 0)) % b ≡ (x.first + x.count) % b) [
            | true ↦ (λ w. let z = w refl in mod-add-mod (x.first + 1) b (x.count + 0 - 1) ∙ ap (λ i. i % b) (omega arith))
            | false ↦ (λ w. ap (λ i. i % b) (omega arith))
          ] in
          ap (λ (y : Queue). q * b + (y.first + y.count) % b) at
          ∙ ap (λ i. q * b + i) (rw n (stays (leaving plan (take (k + 1) ms) q) (left_some (k + 1) q)))
