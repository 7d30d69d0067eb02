-- The packets of a queue, read from its places one by one.
use Rattle.std.proofs.Common.{◌≡◌, ℕ, zero, suc, ◌+◌, ◌*◌, ◌%◌, ◌<◌, ◌≤◌, List, [], ◌∷◌, map, length, get_or, refl, ap, ◌∙◌, le_of_suc-le-suc, not-suc-le-zero, add-zero, mod-eq_of_lt, arith}
use Rattle.std.specs.List.{range_with_len, flat_map}
use Rattle.std.proofs.lemmas.Nat.{mod_below}
use Rattle.std.proofs.lemmas.List.FromFn.{length-map-range_with_len}
use Rattle.schedule.specs.declared.geometry.Position.{Position}
use Rattle.schedule.specs.declared.plan.Plan.{Plan}
use Rattle.machine.specs.Machine.{machine, depth}
use Rattle.machine.specs.Packets.{Packet}
use Rattle.machine.specs.Tables.{Tables, at, packet_at, packets, place_at, queue_at}
use Rattle.mesh.specs.Heads.{head_place, outset, queue_count}
use Rattle.mesh.proofs.Index.{place_in}

-- what stands at k, without a default
pub one_at : {X : Type 0} (xs : List X) (k : ℕ) → k < length xs → (x : X) × (at xs k ≡ x ∷ []) × ((d : X) → get_or xs k d ≡ x)
unfolding at
one_at [] k h = absurd (not-suc-le-zero h)
one_at (x ∷ xs) zero h = (x, refl, λ d. refl)
one_at (x ∷ xs) (suc k) h = one_at xs k (le_of_suc-le-suc h)

singles : {X Y : Type 0} (f : X → List Y) (g : X → Y) → ((x : X) → f x ≡ g x ∷ []) → (xs : List X) → flat_map f xs ≡ map g xs
singles f g e [] = refl
singles f g e (x ∷ xs) = rw (e x) (ap (λ ys. g x ∷ ys) (singles f g e xs))

some_counted : {Y : Type 0} (g : ℕ → Y) (n : ℕ) → 0 < n → (rest : List Y) × (map g (range_with_len 0 n) ≡ g 0 ∷ rest)
some_counted g zero h = absurd (omega arith)
some_counted g (suc n) h = (map g (range_with_len (0 + 1) n), refl)

module _ {P : Type 0} (plan : Plan) (choose : ℕ → ℕ → ℕ × ℕ) (route : Position → Position → ℕ) (t : Tables P)
    (long : queue_count plan * plan.sizes.depth ≤ length t.payloads) where
  abbrev index : ℕ → ℕ → ℕ
  index q j = q * plan.sizes.depth + ((queue_at t q).first + j) % plan.sizes.depth

  pub index_in : (q j : ℕ) → q < queue_count plan → index q j < length t.payloads
  index_in q j h =
      let i = place_in plan q (((queue_at t q).first + j) % plan.sizes.depth) h (mod_below _ plan.sizes.depth plan.depth.0) in
      omega arith

  unfoldable pub packet : (q j : ℕ) → q < queue_count plan → Packet P
  packet q j h = record {
    destination = (place_at t (index q j)).destination;
    source = (place_at t (index q j)).source;
    ready = (place_at t (index q j)).ready;
    payload = (one_at t.payloads (index q j) (index_in q j h)).0;
  }

  each : (q j : ℕ) (h : q < queue_count plan) → packet_at t (index q j) ≡ packet q j h ∷ []
  unfolding packet_at packet
  each q j h =
      let place = place_at t (index q j) in
      ap (map (λ (x : P). record { destination = place.destination; source = place.source; ready = place.ready; payload = x }))
      (one_at t.payloads (index q j) (index_in q j h)).1

  pub packets_are : (q : ℕ) (h : q < queue_count plan)
      → packets (machine plan choose route) t q ≡ map (λ j. packet q j h) (range_with_len 0 (queue_at t q).count)
  unfolding packets depth
  packets_are q h = singles _ (λ j. packet q j h) (λ j. each q j h) (range_with_len 0 (queue_at t q).count)

  pub packets_length : (q : ℕ) → q < queue_count plan → length (packets (machine plan choose route) t q) ≡ (queue_at t q).count
  packets_length q h = ap length (packets_are q h) ∙ length-map-range_with_len (λ j. packet q j h) 0 (queue_at t q).count

  pub packets_none : (q : ℕ) → q < queue_count plan → (queue_at t q).count ≡ 0 → packets (machine plan choose route) t q ≡ []
  packets_none q h e = packets_are q h ∙ ap (λ n. map (λ j. packet q j h) (range_with_len 0 n)) e

  pub packets_some : (q : ℕ) (h : q < queue_count plan) → 0 < (queue_at t q).count
      → (rest : List (Packet P)) × (packets (machine plan choose route) t q ≡ packet q 0 h ∷ rest)
  packets_some q h some =
      let c = some_counted (λ j. packet q j h) (queue_at t q).count some in
      (c.0, packets_are q h ∙ c.1)

  -- the first packet stands at the first place
  pub first_index : (q : ℕ) → (queue_at t q).first < plan.sizes.depth
      → index q 0 ≡ head_place (outset plan route t.cycle t.queues t.places) q
  unfolding queue_at
  first_index q low =
      ap (λ i. q * plan.sizes.depth + i) (ap (λ n. n % plan.sizes.depth) (add-zero (queue_at t q).first) ∙ mod-eq_of_lt low)
