-- What `moved` leaves of each queue of tables that have just the needed lengths.
use Rattle.std.proofs.Common.{◌≡◌, ℕ, ◌+◌, ◌*◌, ◌/◌, ◌%◌, ◌<◌, ◌≤◌, Bool, true, cond, List, [], ◌∷◌, ◌++◌, map, length, get_or, drop, ap, ◌∙◌, ap₂, arith}
use lib.Arith.{digits_lt, digits_div, digits_mod}
use Rattle.machine.specs.declared.tables.Place.{Place}
use Rattle.machine.specs.Machine.{Machine, depth, queues}
use Rattle.machine.specs.Moves.{Moves, moved, queue_after, is_end, place_after, payload_after}
use Rattle.machine.specs.Packets.{Packet}
use Rattle.machine.specs.Tables.{Tables, at, queue_at, place_at, packet_at, packets}
use Rattle.machine.proofs.Edits.{length_edit, getD_edit, at_getD, at_edit, entry}
use Rattle.machine.proofs.Ring.{ring, ring_moved, ring_length, pick}

-- tables of just the needed lengths
pub record Exact {P : Type 0} (c : Machine) (t : Tables P) : Type 0 where
  pub queue_table : length t.queues ≡ queues c
  pub place_table : length t.places ≡ queues c * depth c
  pub payload_table : length t.payloads ≡ queues c * depth c
  pub word_table : length t.words ≡ queues c

-- at queue q a move is possible, and its record is within its limits
pub record Can {P : Type 0} (c : Machine) (s : Moves P) (t : Tables P) (q : ℕ) : Type 0 where
  pub first : (queue_at t q).first < depth c
  pub count : (queue_at t q).count ≤ depth c
  pub leaving : s.leaving q ≡ true → 0 < (queue_at t q).count
  pub one : length (s.joining q) ≤ 1
  pub fits : 0 < length (s.joining q) → (queue_at t q).count < depth c

abbrev pub packet_from : {P : Type 0} → Place → P → Packet P
packet_from p x = record { destination = p.destination; source = p.source; ready = p.ready; payload = x }

packet_after : {P : Type 0} (here : Bool) (joining : List (Packet P)) (p : Place) (x : P)
    → packet_from (place_after here joining p) (payload_after here joining x) ∷ [] ≡ pick here joining (packet_from p x ∷ [])
unfolding pick place_after payload_after
packet_after here joining p x = grind arith

module _ {P : Type 0} (c : Machine) (some : 0 < depth c) (t : Tables P) (exact : Exact c t) where
  one_packet : (k : ℕ) → k < queues c * depth c → length (packet_at t k) ≡ 1
  unfolding packet_at
  one_packet k h =
      let l : k < length t.payloads = omega (arith, exact.payload_table) in
      ap (λ (ys : List P). length (map (packet_from (place_at t k)) ys)) (at_getD t.payloads k (entry t.payloads k l) l)

  pub length_packets : (q : ℕ) → q < queues c → length (packets c t q) ≡ (queue_at t q).count
  unfolding packets ring
  length_packets q h =
      ring_length (depth c) some (λ k. packet_at t (q * depth c + k)) (λ k l. one_packet _ (digits_lt h l)) (queue_at t q).first
      (queue_at t q).count

  module _ (s : Moves P) (cycle : ℕ) where
    pub exact_moved : Exact c (moved c s cycle t)
    unfolding moved
    exact_moved = record {
      queue_table = length_edit t.queues 0 _ _ ∙ exact.queue_table;
      place_table = length_edit t.places 0 _ _ ∙ exact.place_table;
      payload_table = length_edit t.payloads 0 _ _ ∙ exact.payload_table;
      word_table = length_edit t.words 0 _ _ ∙ exact.word_table;
    }

    pub record_moved : (q : ℕ) → q < queues c
        → queue_at (moved c s cycle t) q ≡ queue_after (depth c) (s.leaving q) (length (s.joining q)) (queue_at t q)
    unfolding moved queue_at
    record_moved q h = getD_edit t.queues (queues c) q _ _ h (omega (arith, exact.queue_table))

    pub word_moved : (q : ℕ) → q < queues c → get_or (moved c s cycle t).words q 0 ≡ s.word q
    unfolding moved
    word_moved q h = getD_edit t.words (queues c) q _ _ h (omega (arith, exact.word_table))

    packet_moved : (q k : ℕ) → q < queues c → k < depth c
        → packet_at (moved c s cycle t) (q * depth c + k)
        ≡ pick (is_end (depth c) (queue_at t q) k) (s.joining q) (packet_at t (q * depth c + k))
    unfolding moved packet_at place_at
    packet_moved q k h l =
        let b : ℕ = depth c in
        let n : ℕ = q * b + k in
        let low : n < queues c * b = digits_lt h l in
        let eq : n / b ≡ q = digits_div q l in
        let ek : n % b ≡ k = digits_mod q l in
        let here : ℕ → ℕ → Bool = λ x y. is_end b (queue_at t x) y in
        let place : place_at (moved c s cycle t) n ≡ place_after (here q k) (s.joining q) (place_at t n) =
        getD_edit t.places (queues c * b) n _ _ low (omega (arith, exact.place_table))
        ∙ ap₂ (λ (x y : ℕ). place_after (here x y) (s.joining x) (place_at t n)) eq ek in
        let e = at_edit t.payloads (queues c * b) n (λ k x. payload_after (here (k / b) (k % b)) (s.joining (k / b)) x) low
        (omega (arith, exact.payload_table)) in
        let load : at (moved c s cycle t).payloads n ≡ payload_after (here q k) (s.joining q) e.0 ∷ [] =
        e.2 ∙ ap₂ (λ (x y : ℕ). payload_after (here x y) (s.joining x) e.0 ∷ []) eq ek in
        grind (arith, place, load, e.1, packet_after (here q k) (s.joining q) (place_at t n) e.0)

    pub packets_moved : (q : ℕ) → q < queues c → Can c s t q
        → packets c (moved c s cycle t) q ≡ cond (s.leaving q) (drop 1 (packets c t q)) (packets c t q) ++ s.joining q
    unfolding packets ring queue_after is_end
    packets_moved q h can =
        rw (record_moved q h) (ring_moved (depth c) some (λ k. packet_at t (q * depth c + k)) (λ k l. one_packet _ (digits_lt h l))
        (queue_at t q).first (queue_at t q).count (λ k. packet_at (moved c s cycle t) (q * depth c + k)) (s.leaving q) (s.joining q)
        can.first can.leaving can.one can.fits (λ k l. packet_moved q k h l))
