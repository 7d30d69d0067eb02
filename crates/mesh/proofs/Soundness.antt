-- Soundness told place by place is the machine's soundness of the tables.
use Rattle.std.proofs.Common.{◌≡◌, ℕ, zero, suc, ◌+◌, ◌*◌, ◌<◌, ◌≤◌, Bool, true, ◌&&◌, ltb, leb, map, length, sym, refl, ap, ◌∙◌, ⊎_elim, arith}
use Rattle.std.specs.List.{range_with_len}
use Rattle.std.proofs.lemmas.Bool.{and_from, and_parts, cases_eq}
use Rattle.schedule.specs.declared.geometry.Position.{Position}
use Rattle.schedule.specs.declared.plan.Plan.{Plan}
use Rattle.machine.specs.Machine.{Machine, machine, depth, domains, hop, queues, routers}
use Rattle.machine.specs.Packets.{Packet}
use Rattle.machine.specs.Tables.{Tables, all_below, place_at, queue_at, sound, sound_packet, sound_packets, sound_queue}
use Rattle.mesh.specs.Heads.{queue_count}
use Rattle.mesh.specs.Scan.{sound_held}
use Rattle.mesh.specs.Scan as scan
use Rattle.mesh.proofs.Cases.{bool_same}
use Rattle.mesh.proofs.Packets.{packet, packets_are}
use Rattle.mesh.proofs.Scan.{below_all, below_at}

below_like : (f g : ℕ → Bool) (n : ℕ) → ((i : ℕ) → i < n → f i ≡ g i) → all_below f n ≡ all_below g n
unfolding all_below
below_like f g zero e = refl
below_like f g (suc n) e = rw (e n (omega arith), below_like f g n (λ i h. e i (omega arith))) refl

module _ {P : Type 0} (m : Machine) (cycle : ℕ) (g : ℕ → Packet P) where
  sound_from : (n a : ℕ) → ((j : ℕ) → a ≤ j → j < a + n → sound_packet m cycle (g j) ≡ true)
      → sound_packets m cycle (map g (range_with_len a n)) ≡ true
  unfolding sound_packets
  sound_from zero a all = refl
  sound_from (suc n) a all =
      and_from _ _ (all a (omega arith) (omega arith)) (sound_from n (a + 1) (λ j l h. all j (omega arith) (omega arith)))

  sound_at : (n a : ℕ) → sound_packets m cycle (map g (range_with_len a n)) ≡ true → (j : ℕ) → a ≤ j → j < a + n
      → sound_packet m cycle (g j) ≡ true
  unfolding sound_packets
  sound_at zero a e j l h = absurd (omega arith)
  sound_at (suc n) a e j l h =
      let p = and_parts _ _ e in
      ⊎_elim (λ (s : j ≡ a). ap (λ i. sound_packet m cycle (g i)) s ∙ p.0)
      (λ (ne : j ≡ a → ⊥). sound_at n (a + 1) p.1 j (omega arith) (omega arith)) (cases_eq j a)

  counted_sound : (f : ℕ → Bool) → ((j : ℕ) → sound_packet m cycle (g j) ≡ f j) → (n : ℕ)
      → sound_packets m cycle (map g (range_with_len 0 n)) ≡ all_below f n
  counted_sound f e n = bool_same _ _
      (λ s. below_all f n (λ j h. sym (e j) ∙ sound_at n 0 s j (omega arith) (omega arith)))
      (λ s. sound_from n 0 (λ j l h. e j ∙ below_at f n j s (omega arith)))

module _ {P : Type 0} (plan : Plan) (choose : ℕ → ℕ → ℕ × ℕ) (route : Position → Position → ℕ) (t : Tables P)
    (long : queue_count plan * plan.sizes.depth ≤ length t.payloads) where
  packet_same : (q j : ℕ) (h : q < queue_count plan)
      → sound_packet (machine plan choose route) t.cycle (packet plan choose route t long q j h)
      ≡ sound_held plan t.cycle t.places q (queue_at t q).first j
  unfolding sound_packet sound_held packet place_at routers hop
  packet_same q j h = refl

  queue_same : (q : ℕ) → q < queue_count plan
      → sound_queue (machine plan choose route) t q ≡ scan.sound_queue plan t.cycle t.queues t.places q
  unfolding sound_queue scan.sound_queue queue_at depth
  queue_same q h =
      let m : Machine = machine plan choose route in
      let x = queue_at t q in
      let held : ℕ → Bool = sound_held plan t.cycle t.places q x.first in
      let one : (j : ℕ) → sound_packet m t.cycle (packet plan choose route t long q j h) ≡ held j = λ j. packet_same q j h in
      ap (λ b. ltb x.first plan.sizes.depth && (leb x.count plan.sizes.depth && b))
      (ap (sound_packets m t.cycle) (packets_are plan choose route t long q h)
      ∙ counted_sound m t.cycle (λ j. packet plan choose route t long q j h) held one x.count)

  pub sound_same : sound (machine plan choose route) t ≡ scan.sound plan t.cycle t.queues t.places
  unfolding sound scan.sound queues routers domains
  sound_same = below_like _ _ (queue_count plan) (λ q h. queue_same q h)
