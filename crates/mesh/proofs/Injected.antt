-- One packet joins one queue: three writes are the machine's move of an injection.
use Rattle.std.proofs.Common.{◌≡◌, ℕ, ◌+◌, ◌-◌, ◌*◌, ◌/◌, ◌%◌, ◌<◌, ◌≤◌, Bool, true, false, cond, eqb, List, [], ◌∷◌, length, get_or, set, sym, refl, ◌∙◌, ⊎_elim, arith}
use Rattle.std.proofs.lemmas.Nat.{div-mul-add, mod-mul-add, mod_below, div-add-mod'}
use Rattle.std.proofs.lemmas.List.{get_or_default}
use Rattle.std.proofs.lemmas.Bool.{cases_eq, eq-eqb, ne_eqb}
use Rattle.schedule.specs.declared.geometry.Position.{Position}
use Rattle.schedule.specs.declared.plan.Plan.{Plan}
use Rattle.machine.specs.declared.tables.Place.{Place}
use Rattle.machine.specs.declared.tables.Queue.{Queue}
use Rattle.machine.specs.Cycle.{bit}
use Rattle.machine.specs.Machine.{machine, depth, domains, queues, routers}
use Rattle.machine.specs.Moves.{edit, injection_moves, is_end, moved, payload_after, place_after, queue_after}
use Rattle.machine.specs.Packets.{Packet}
use Rattle.machine.specs.Tables.{Tables, queue_at, tables}
use Rattle.mesh.specs.Answers.{one_more}
use Rattle.mesh.specs.Heads.{no_place, no_queue, queue_count}
use Rattle.mesh.specs.Orderly.{end_place}
use Rattle.mesh.proofs.Edited.{edit_at, edit_is, edit_nothing}
use Rattle.mesh.proofs.Granted.{Lent}
use Rattle.mesh.proofs.Index.{place_in}

-- one write is an edit that keeps every other entry
written : {X : Type 0} (n : ℕ) (g : ℕ → X → X) (xs : List X) (i : ℕ) (v d : X) → i < n → n ≤ length xs
    → ((k : ℕ) (x : X) → (k ≡ i → ⊥) → g k x ≡ x) → v ≡ g i (get_or xs i d) → set xs i v ≡ edit 0 n g xs
written n g xs i v d low long same is =
    edit_at n (λ _ x. x) g xs xs i v d low (omega arith) (edit_nothing n (λ _ x. x) xs (λ k x h. refl)) (λ k x h ne. same k x ne) is

module _ {P : Type 0} (plan : Plan) (choose : ℕ → ℕ → ℕ × ℕ) (route : Position → Position → ℕ) (t : Tables P) (fitting : Lent plan t)
    (q : ℕ) (inside : q < queue_count plan) (x : Packet P) where
  abbrev joining : ℕ → List (Packet P)
  joining k = cond (eqb k q) (x ∷ []) []

  abbrev ring : Queue
  ring = get_or t.queues q no_queue

  queue_written : set t.queues q (one_more ring)
      ≡ edit 0 (queue_count plan) (λ k y. queue_after plan.sizes.depth false (length (joining k)) y) t.queues
  unfolding queue_after bit
  queue_written =
      written (queue_count plan) _ t.queues q (one_more ring) no_queue inside fitting.fit.queues_in
      (λ k y ne. let off = ne_eqb k q ne in let e : y.count - 0 + 0 ≡ y.count = omega arith in
      rw off (λ i. record { first = y.first; count = e i }))
      (let on = eq-eqb q q refl in let e : ring.count + 1 ≡ ring.count - 0 + 1 = omega arith in
      rw on (λ i. record { first = ring.first; count = e i }))

  module _ {X : Type 0} (after : Bool → List (Packet P) → X → X) (v : X) (kept : (here : Bool) (y : X) → after here [] y ≡ y)
      (elsewhere : (y : X) → after false (x ∷ []) y ≡ y) (lands : (y : X) → after true (x ∷ []) y ≡ v) where
    abbrev landing : ℕ → X → X
    landing k y = after (is_end plan.sizes.depth (queue_at t (k / plan.sizes.depth)) (k % plan.sizes.depth)) (joining (k / plan.sizes.depth)) y

    abbrev b : ℕ
    b = plan.sizes.depth

    abbrev last : ℕ
    last = (ring.first + ring.count) % b

    low : last < b
    low = mod_below _ b plan.depth.0

    other : (k : ℕ) (y : X) → (k ≡ end_place plan t.queues q → ⊥) → landing k y ≡ y
    unfolding is_end queue_at
    other k y ne = ⊎_elim
        (λ (s : k / b ≡ q).
        let off : eqb (k % b) last ≡ false = ne_eqb _ _ (λ (z : k % b ≡ last). ne (sym (div-add-mod' k b) ∙ rw (s, z))) in
        let on = eq-eqb q q refl in
        rw (s, on, off) (elsewhere y))
        (λ (s : k / b ≡ q → ⊥). let off = ne_eqb (k / b) q s in rw off (kept _ y))
        (cases_eq (k / b) q)

    here : (y : X) → v ≡ landing (end_place plan t.queues q) y
    unfolding is_end queue_at
    here y =
        let d = div-mul-add q b last low in
        let r = mod-mul-add q b last low in
        rw (d, r, eq-eqb q q refl, eq-eqb last last refl) (sym (lands y))

    pub landed : (xs : List X) (d : X) → queue_count plan * b ≤ length xs
        → set xs (end_place plan t.queues q) v ≡ edit 0 (queue_count plan * b) landing xs
    landed xs d long = written (queue_count plan * b) landing xs (end_place plan t.queues q) v d (place_in plan q last inside low) long other (here _)

  words_kept : t.words ≡ edit 0 (queue_count plan) (λ k _. get_or t.words k 0) t.words
  words_kept =
      edit_is (queue_count plan) _ t.words t.words refl (λ k d h j. get_or_default t.words k d 0 j) (λ k d h j. refl)

  pub injected : tables t.cycle (set t.queues q (one_more ring))
      (set t.places (end_place plan t.queues q) (record { destination = x.destination; source = x.source; ready = x.ready }))
      (set t.payloads (end_place plan t.queues q) x.payload) t.words
      ≡ moved (machine plan choose route) (injection_moves t q x) t.cycle t
  unfolding moved injection_moves queues routers domains depth place_after payload_after
  injected =
      let place : Place = record { destination = x.destination; source = x.source; ready = x.ready } in
      let placed = landed place_after place (λ _ _. refl) (λ _. refl) (λ _. refl) t.places no_place fitting.fit.places_in in
      let loaded = landed payload_after x.payload (λ _ _. refl) (λ _. refl) (λ _. refl) t.payloads x.payload fitting.payloads_in in
      λ i. tables t.cycle (queue_written i) (placed i) (loaded i) (words_kept i)
