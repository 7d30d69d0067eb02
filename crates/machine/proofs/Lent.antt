-- Tables with something behind them: a machine reads and writes only the part that it needs.
use Rattle.std.proofs.Common.{◌≡◌, ℕ, zero, suc, ◌+◌, ◌*◌, ◌/◌, ◌%◌, ◌<◌, Bool, true, false, cond, ◌&&◌, ltb, leb, List, [], ◌++◌, map, get_or, refl, ap, ◌∙◌, ap₂, mod-lt, arith}
use lib.Arith.{digits_lt}
use Rattle.std.specs.List.{range_with_len, flat_map}
use Rattle.std.proofs.lemmas.Nat.{div_below}
use Rattle.std.proofs.lemmas.List.{get_or_append_left}
use Rattle.machine.specs.declared.tables.Place.{Place}
use Rattle.machine.specs.declared.tables.Queue.{Queue}
use Rattle.machine.specs.Cycle.{leaves, joins, next_word}
use Rattle.machine.specs.Machine.{Machine, depth, domains, inside, queues}
use Rattle.machine.specs.Moves.{Moves, moved, is_end, place_after, payload_after, cycle_moves, domain_of, side_of, router_of}
use Rattle.machine.specs.Packets.{Packet}
use Rattle.machine.specs.Tables.{Tables, queue_at, place_at, packet_at, packets, view, sound_packets, sound_queue, all_below, sound}
use Rattle.machine.proofs.Edits.{at_left, edit_onto}
use Rattle.machine.proofs.Laws.{Kept}
use Rattle.machine.proofs.Moved.{Exact, packet_from}
use Rattle.machine.proofs.QueueNumbers.{number_inside}
use Rattle.machine.proofs.Ring.{joined_ext}
use Rattle.machine.proofs.Views.{same_view}

pub same_tables : {P : Type 0} (u v : Tables P) → u.cycle ≡ v.cycle → u.queues ≡ v.queues → u.places ≡ v.places
    → u.payloads ≡ v.payloads → u.words ≡ v.words → u ≡ v
same_tables u v a b c d e = λ i. record { cycle = a i; queues = b i; places = c i; payloads = d i; words = e i }

all_below_same : (f g : ℕ → Bool) (n : ℕ) → ((k : ℕ) → k < n → f k ≡ g k) → all_below f n ≡ all_below g n
unfolding all_below
all_below_same f g zero h = refl
all_below_same f g (suc n) h = ap₂ ◌&&◌ (h n (omega arith)) (all_below_same f g n (λ k l. h k (omega arith)))

-- tables with something behind each
abbrev pub onto : {P : Type 0} → Tables P → Tables P → Tables P
onto t b = record {
  cycle = t.cycle;
  queues = t.queues ++ b.queues;
  places = t.places ++ b.places;
  payloads = t.payloads ++ b.payloads;
  words = t.words ++ b.words;
}

module _ {P : Type 0} (c : Machine) (kept : Kept c) (t : Tables P) (exact : Exact c t) (b : Tables P) where
  pub queue_at_same : (q : ℕ) → q < queues c → queue_at (onto t b) q ≡ queue_at t q
  unfolding queue_at
  queue_at_same q h = get_or_append_left t.queues b.queues _ q (omega (arith, exact.queue_table))

  pub word_same : (q : ℕ) → q < queues c → get_or (t.words ++ b.words) q 0 ≡ get_or t.words q 0
  word_same q h = get_or_append_left t.words b.words 0 q (omega (arith, exact.word_table))

  packet_same : (k : ℕ) → k < queues c * depth c → packet_at (onto t b) k ≡ packet_at t k
  unfolding packet_at place_at
  packet_same k h =
      ap₂ (λ (p : Place) (l : List P). map (packet_from p) l)
      (get_or_append_left t.places b.places _ k (omega (arith, exact.place_table)))
      (at_left t.payloads b.payloads k (omega (arith, exact.payload_table)))

  packets_same : (q : ℕ) → q < queues c → packets c (onto t b) q ≡ packets c t q
  unfolding packets
  packets_same q h =
      let n : ℕ = depth c in
      ap (λ (x : Queue). flat_map (λ (j : ℕ). packet_at (onto t b) (q * n + (x.first + j) % n)) (range_with_len 0 x.count)) (queue_at_same q h)
      ∙ joined_ext _ _ 0 (queue_at t q).count (λ j _ _. packet_same _ (digits_lt h (mod-lt _ kept.depth_some)))

  pub view_same : (d : ℕ) → d < domains c → view c (onto t b) d ≡ view c t d
  unfolding view
  view_same d hd = same_view _ _ refl (λ r i. side r i (inside c r i) refl)
    where
      side : (r i : ℕ) (a : Bool) → inside c r i ≡ a
          → ((view c (onto t b) d).queue r i ≡ (view c t d).queue r i) × ((view c (onto t b) d).word r i ≡ (view c t d).word r i)
      side r i true e = let l = number_inside c r i d e hd in (
        ap (λ (l : List (Packet P)). cond (inside c r i) l []) (packets_same _ l),
        ap (λ (n : ℕ). cond (inside c r i) n 0) (word_same _ l),
      )
      side r i false e = (rw e, rw e)

  pub sound_same : sound c (onto t b) ≡ sound c t
  unfolding sound sound_queue
  sound_same = all_below_same (sound_queue c (onto t b)) (sound_queue c t) (queues c) (λ q h.
      ap₂ (λ (x : Queue) (l : List (Packet P)). ltb x.first (depth c) && (leb x.count (depth c) && sound_packets c t.cycle l))
      (queue_at_same q h) (packets_same q h))

  pub moves_same : cycle_moves c (onto t b) ≡ cycle_moves c t
  unfolding cycle_moves domain_of
  moves_same =
      let D : ℕ → ℕ = λ q. q % domains c in
      let v : (q : ℕ) → view c (onto t b) (D q) ≡ view c t (D q) = λ q. view_same (D q) (mod-lt q kept.domains_some) in
      λ i. record {
        leaving = λ q. leaves c (D q) (v q i) (router_of c q) (side_of c q);
        joining = λ q. joins c (D q) (v q i) (router_of c q) (side_of c q);
        word = λ q. next_word c (D q) (v q i) (router_of c q) (side_of c q);
      }

  -- the same moves; what lies behind stays
  pub moved_same : (s : Moves P) (w : ℕ → ℕ) (cycle : ℕ) → ((q : ℕ) → q < queues c → s.word q ≡ w q)
      → moved c s cycle (onto t b) ≡ onto (moved c (record { leaving = s.leaving; joining = s.joining; word = w }) cycle t) b
  unfolding moved
  moved_same s w cycle h = same_tables _ _ refl
      (edit_onto t.queues b.queues (queues c) _ _ exact.queue_table (λ k l x. refl))
      (edit_onto t.places b.places (queues c * n) _ _ exact.place_table
      (λ k l x. ap (λ (y : Queue). place_after (is_end n y (k % n)) (s.joining (k / n)) x) (queue_at_same (k / n) (row k l))))
      (edit_onto t.payloads b.payloads (queues c * n) _ _ exact.payload_table
      (λ k l x. ap (λ (y : Queue). payload_after (is_end n y (k % n)) (s.joining (k / n)) x) (queue_at_same (k / n) (row k l))))
      (edit_onto t.words b.words (queues c) _ _ exact.word_table (λ k l x. h k l))
    where
      n : ℕ
      n = depth c

      row : (k : ℕ) → k < queues c * depth c → k / depth c < queues c
      row k l = div_below k (depth c) (queues c) kept.depth_some (omega arith)
