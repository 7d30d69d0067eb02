-- The packets of a queue, by its places in order.
use Rattle.std.proofs.Common.{◌≡◌, ℕ, zero, suc, ◌+◌, ◌-◌, ◌*◌, ◌/◌, ◌%◌, ◌<◌, ◌≤◌, Bool, true, false, not, ◌&&◌, ltb, leb, List, [], length, take, get_or, sym, refl, ap, ap₂, ◌∙◌, ⊎_elim, not-suc-le-zero, mod-eq_of_lt, add-one, arith}
use native.Mathlib.Nat.{mod-eq-sub-mod}
use Rattle.std.proofs.Math.Nat.{le-div_iff_mul-le}
use Rattle.std.specs.Simd.{first_chunks}
use Rattle.std.proofs.lemmas.List.{get_or-take, length-take-le}
use Rattle.std.proofs.lemmas.Nat.{mod_below}
use Rattle.std.proofs.lemmas.Bool.{lt-ltb, le-ltb, ltb-true, and_from, and_left, and_right, and_parts, not-true, cases_lt}
use Rattle.schedule.specs.declared.plan.Plan.{Plan}
use Rattle.machine.specs.declared.tables.Queue.{Queue}
use Rattle.machine.specs.declared.tables.Place.{Place}
use Rattle.machine.specs.Tables.{all_below}
use Rattle.mesh.specs.Heads.{no_place, no_queue, queue_count}
use Rattle.mesh.proofs.Index.{chunk_at}
use Rattle.mesh.specs.Scan.{held, sound_place, sound_held, sound_in, sound_queue, sound_ring}

-- tests of all numbers below n
module _ (f : ℕ → Bool) where
  pub below_none : all_below f 0 ≡ true
  unfolding all_below
  below_none = refl

  pub below_more : (i : ℕ) → all_below f i ≡ true → f i ≡ true → all_below f (i + 1) ≡ true
  unfolding all_below
  below_more i e h = ap (all_below f) (add-one i) ∙ and_from (f i) (all_below f i) h e

  pub below_stop : (n i : ℕ) → i < n → f i ≡ false → all_below f n ≡ false
  unfolding all_below
  below_stop zero i h e = absurd (not-suc-le-zero h)
  below_stop (suc n) i h e = ⊎_elim
      (λ (l : i < n). and_right (f n) (all_below f n) (below_stop n i l e))
      (λ (l : n ≤ i). let s : n ≡ i = omega arith in and_left (f n) (all_below f n) (ap f s ∙ e))
      (cases_lt i n)

  pub below_at : (n i : ℕ) → all_below f n ≡ true → i < n → f i ≡ true
  unfolding all_below
  below_at zero i e h = absurd (not-suc-le-zero h)
  below_at (suc n) i e h =
      let p = and_parts (f n) (all_below f n) e in
      ⊎_elim (λ (l : i < n). below_at n i p.1 l) (λ (l : n ≤ i). let s : i ≡ n = omega arith in ap f s ∙ p.0) (cases_lt i n)

  pub below_all : (n : ℕ) → ((i : ℕ) → i < n → f i ≡ true) → all_below f n ≡ true
  unfolding all_below
  below_all zero h = refl
  below_all (suc n) h = and_from (f n) (all_below f n) (h n (omega arith)) (below_all n (λ i l. h i (omega arith)))

-- tests that agree where they are used
pub below_like : (f g : ℕ → Bool) (n : ℕ) → ((i : ℕ) → i < n → f i ≡ g i) → all_below f n ≡ all_below g n
unfolding all_below
below_like f g zero e = refl
below_like f g (suc n) e = ap₂ ◌&&◌ (e n (omega arith)) (below_like f g n (λ i h. e i (omega arith)))

-- where nothing is spoilt, what is held is sound
pub unspoilt : (ok here : Bool) → false ≡ (not ok && here) → here ≡ true → ok ≡ true
unspoilt true here e h = refl
unspoilt false here e h = e ∙ h

module _ (b : ℕ) (x : Queue) (low : x.first < b) where
  -- packet i is at a place that is held
  held_at : (i : ℕ) → i < x.count → x.count ≤ b → held b x ((x.first + i) % b) ≡ true
  held_at i h few = ⊎_elim
      (λ (l : x.first + i < b).
      let e : (x.first + i) % b ≡ x.first + i = mod-eq_of_lt l in
      rw (e, le-ltb (x.first + i) x.first (omega arith)) (lt-ltb _ _ (omega arith)))
      (λ (l : b ≤ x.first + i).
      let k : x.first + i - b < b = omega arith in
      let e : (x.first + i) % b ≡ x.first + i - b = mod-eq-sub-mod l ∙ mod-eq_of_lt k in
      rw (e, lt-ltb (x.first + i - b) x.first (omega arith)) (lt-ltb _ _ (omega arith)))
      (cases_lt (x.first + i) b)

  -- a place that is held has a packet
  packet_at : (s : ℕ) → s < b → held b x s ≡ true → (i : ℕ) × ((i < x.count) × ((x.first + i) % b ≡ s))
  packet_at s h e = ⊎_elim
      (λ (l : s < x.first).
      let t : s + b - x.first < x.count = ltb-true _ _ (rw (lt-ltb s x.first l) at e) in
      let o : b ≤ x.first + (s + b - x.first) = omega arith in
      let k : x.first + (s + b - x.first) - b < b = omega arith in
      let m = mod-eq-sub-mod o in
      let n = mod-eq_of_lt k in
      (s + b - x.first, (t, m ∙ n ∙ omega arith)))
      (λ (l : x.first ≤ s).
      let t : s - x.first < x.count = ltb-true _ _ (rw (le-ltb s x.first l) at e) in
      let k : x.first + (s - x.first) < b = omega arith in
      let n = mod-eq_of_lt k in
      (s - x.first, (t, n ∙ omega arith)))
      (cases_lt s x.first)

-- a queue whose b places are a list of their own
module _ (plan : Plan) (t b : ℕ) (ring : List Place) (x : Queue) (low : x.first < b) (few : x.count ≤ b) where
  pub scan_all : ((s : ℕ) → s < b → held b x s ≡ true → sound_place plan t (get_or ring s no_place) ≡ true)
      → all_below (sound_in plan t b ring x.first) x.count ≡ true
  unfolding sound_in
  scan_all all = below_all (sound_in plan t b ring x.first) x.count
      (λ i h. all ((x.first + i) % b) (mod_below (x.first + i) b (omega arith)) (held_at b x low i h few))

  pub scan_stop : (s : ℕ) → s < b → true ≡ (not (sound_place plan t (get_or ring s no_place)) && held b x s)
      → all_below (sound_in plan t b ring x.first) x.count ≡ false
  unfolding sound_in
  scan_stop s h e =
      let ok = sound_place plan t (get_or ring s no_place) in
      let p = and_parts (not ok) (held b x s) (sym e) in
      let i = packet_at b x low s h p.1 in
      below_stop (sound_in plan t b ring x.first) x.count i.0 i.1.0 (rw i.1.1 (not-true ok p.0))

-- queue q is told by its record and by its own places
module _ (plan : Plan) (t : ℕ) (queues : List Queue) (places : List Place) where
  at_depth : (k q : ℕ) → q < k
      → sound_ring plan t plan.sizes.depth (get_or queues q no_queue) (get_or (first_chunks plan.sizes.depth k places) q [])
      ≡ sound_queue plan t queues places q
  unfolding sound_ring sound_queue sound_in sound_held
  at_depth k q h =
      let x = get_or queues q no_queue in
      let b = plan.sizes.depth in
      ap (λ z. ltb x.first b && (leb x.count b && z))
      (below_like (sound_in plan t b (get_or (first_chunks b k places) q []) x.first) (sound_held plan t places q x.first) x.count
      (λ j l. ap (sound_place plan t) (chunk_at b k places q ((x.first + j) % b) no_place h (mod_below (x.first + j) b plan.depth.0))))

  module _ (b n : ℕ) (deep : b ≡ plan.sizes.depth) (needed : n ≡ queue_count plan) (long : queue_count plan * plan.sizes.depth ≤ length places) where
    -- there are as many rings as queues
    pub rings_in : queue_count plan ≤ length places / b
    rings_in = rw deep ((le-div_iff_mul-le plan.depth.0).1 long)

    -- the queue and the ring of one turn
    pub ring_turn : (q : ℕ) (x : Queue) (ring : List Place) (rings : List (List Place))
        → queue_count plan ≤ length queues → rings ≡ first_chunks b (length places / b) places → q < length (take n queues)
        → x ≡ get_or (take n queues) q no_queue → ring ≡ get_or rings q []
        → (q < queue_count plan) × (sound_ring plan t b x ring ≡ sound_queue plan t queues places q)
    ring_turn q x ring rings many cut h e f =
        let l : q < n = omega (arith, length-take-le n queues (omega arith)) in
        let k = rings_in in (
          omega arith,
          ap₂ (sound_ring plan t b) (e ∙ get_or-take n queues q no_queue l) (f ∙ ap (λ rs. get_or rs q []) cut)
              ∙ ap (λ d. sound_ring plan t d (get_or queues q no_queue) (get_or (first_chunks d (length places / b) places) q [])) deep
              ∙ at_depth (length places / b) q (omega arith),
        )

-- the same among all places
module _ (plan : Plan) (t : ℕ) (places : List Place) (q b : ℕ) (deep : b ≡ plan.sizes.depth) (x : Queue) (low : x.first < b)
    (few : x.count ≤ b) where
  pub places_all : ((s : ℕ) → s < b → held b x s ≡ true → sound_place plan t (get_or places (q * b + s) no_place) ≡ true)
      → all_below (sound_held plan t places q x.first) x.count ≡ true
  unfolding sound_held
  places_all all = below_all (sound_held plan t places q x.first) x.count
      (λ i h. rw (← deep) (all ((x.first + i) % b) (mod_below (x.first + i) b (omega arith)) (held_at b x low i h few)))

  pub places_stop : (s : ℕ) → s < b → true ≡ (not (sound_place plan t (get_or places (q * b + s) no_place)) && held b x s)
      → all_below (sound_held plan t places q x.first) x.count ≡ false
  unfolding sound_held
  places_stop s h e =
      let ok = sound_place plan t (get_or places (q * b + s) no_place) in
      let p = and_parts (not ok) (held b x s) (sym e) in
      let i = packet_at b x low s h p.1 in
      below_stop (sound_held plan t places q x.first) x.count i.0 i.1.0 (rw (← deep, i.1.1) (not-true ok p.0))
