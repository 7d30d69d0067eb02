-- Built offsets keep the wave rule, whatever the sizes.
use Rattle.std.proofs.Common.{◌≡◌, ℕ, zero, suc, ◌+◌, ◌-◌, ◌*◌, ◌/◌, ◌%◌, ◌<◌, Bool, List, length, get_or, Decides, sym, refl, ap, ◌∙◌, subst, mul-add, arith}
use native.Mathlib.Nat.{mod-mod, mod-add-mod, add-mul-mod_self_right}
use Rattle.std.proofs.lemmas.Nat.{div-mul-add, mod-mul-add, mod_below, mul-add-lt, div-add-mod'}
use Rattle.std.proofs.lemmas.List.FromFn.{length-map-range_with_len, get_or-map-range_with_len}
use Rattle.schedule.specs.declared.geometry.Position.{Position}
use Rattle.schedule.specs.declared.sizes.Sizes.{Sizes}
use Rattle.schedule.specs.Built.{remainder, minus_remainder, cycles_from_corner, built_offset, built_entry, built}
use Rattle.schedule.specs.Mesh.{position_of, router_at, neighbour}
use Rattle.schedule.specs.Plans.{BuiltKeep}
use Rattle.schedule.specs.Timetable.{timetable, routers, ports, offset, OffsetsBelow, WaveRule}
use Rattle.schedule.specs.Verdict.{Assigned, Keeps}
use Rattle.schedule.proofs.Neighbours.{Step, placed, neighbour_step, position_router, position_within}

-- k more on both sides of a remainder
along : (m n k : ℕ) → (remainder n m + k) % m ≡ remainder (n + k) m % m
along m n k = mod-add-mod n m k ∙ sym (mod-mod (n + k) m)

-- and of the remainder of minus n
against : (m n k : ℕ) → 0 < m → (minus_remainder (n + k) m + k) % m ≡ minus_remainder n m % m
against m n k p =
    let b = n % m in
    let x = (n + k) % m in
    let q = (b + k) / m in
    let same : (b + k) % m ≡ x = mod-add-mod n m k in
    let split : q * m + (b + k) % m ≡ b + k = div-add-mod' (b + k) m in
    let lx : x < m = mod_below (n + k) m p in
    let lb : b < m = mod_below n m p in
    let turned : (m - x) + k ≡ (m - b) + q * m = omega arith in
    mod-add-mod (m - x) m k
    ∙ (ap (λ y. y % m) turned ∙ (add-mul-mod_self_right (m - b) q m ∙ sym (mod-mod (m - b) m)))

-- the offsets on the two ends of a link that leads away from the corner, and of one that leads towards it
away : (hop period m n : ℕ) → 0 < period → n ≡ m + 1
    → (minus_remainder (hop * n) period + hop) % period ≡ minus_remainder (hop * m) period % period
away hop period m n p e =
    let more : hop * n ≡ hop * m + hop = ap (λ k. hop * k) e ∙ omega (arith, mul-add hop m 1) in
    ap (λ k. (minus_remainder k period + hop) % period) more ∙ against period (hop * m) hop p

towards : (hop period m n : ℕ) → m ≡ n + 1 → (remainder (hop * n) period + hop) % period ≡ remainder (hop * m) period % period
towards hop period m n e =
    let more : hop * m ≡ hop * n + hop = ap (λ k. hop * k) e ∙ omega (arith, mul-add hop n 1) in
    along period (hop * n) hop ∙ ap (λ k. remainder k period % period) (sym more)

ends : (hop period side : ℕ) (a b : Position) → 0 < period → Step side a b
    → (built_offset period (hop * (b.column + b.row)) side + hop) % period ≡ built_offset period (hop * (a.column + a.row)) side % period
ends hop period zero a b p s = away hop period _ _ p s
ends hop period (suc zero) a b p s = towards hop period _ _ s
ends hop period (suc (suc zero)) a b p s = away hop period _ _ p s
ends hop period (suc (suc (suc zero))) a b p s = towards hop period _ _ s
ends hop period (suc (suc (suc (suc side)))) a b p s = absurd s

below : (period cycles port : ℕ) → 0 < period → built_offset period cycles port < period
below period cycles zero p = mod_below _ period p
below period cycles (suc zero) p = mod_below _ period p
below period cycles (suc (suc zero)) p = mod_below _ period p
below period cycles (suc (suc (suc zero))) p = mod_below _ period p
below period cycles (suc (suc (suc (suc port)))) p = mod_below _ period p

module _ (sizes : Sizes) (period : ℕ) where
  pub built_length : length (built sizes period) ≡ ports sizes
  unfolding built
  built_length = length-map-range_with_len (built_entry sizes period) 0 (ports sizes)

  entry_is : (k : ℕ) → k < ports sizes → get_or (built sizes period) k 0 ≡ built_entry sizes period k
  unfolding built
  entry_is k l = get_or-map-range_with_len (built_entry sizes period) 0 (ports sizes) k k 0 l (omega arith)

  pub built_below : 0 < period → OffsetsBelow period (built sizes period)
  unfolding built_entry
  built_below p k l = let m : k < ports sizes = omega (arith, built_length) in rw (entry_is k m) (below period _ (k % 5) p)

  offset_is : (at : Position) (r side : ℕ) → r < routers sizes → side < 5 → position_of sizes.width r ≡ at
      → offset (built sizes period) r side ≡ built_offset period (cycles_from_corner sizes at) side
  unfolding built_entry
  offset_is at r side l m e =
      let d : (r * 5 + side) / 5 ≡ r = div-mul-add r 5 side m in
      let n : (r * 5 + side) % 5 ≡ side = mod-mul-add r 5 side m in
      entry_is (r * 5 + side) (omega arith)
      ∙ rw (d, n) (ap (λ q. built_offset period (cycles_from_corner sizes q) side) e)

  pub built_wave : 0 < period → 0 < sizes.width → WaveRule sizes period (built sizes period)
  built_wave p w link =
      let width = sizes.width in
      let from = position_of width link.from in
      let found = placed (router_at width) (neighbour width sizes.height from link.side) link.to link.leads in
      let step = neighbour_step width sizes.height from found.0 link.side
      (position_within width sizes.height link.from w link.from_inside) found.1 in
      let here = offset_is from link.from link.side link.from_inside (omega (arith, link.side_outward)) refl in
      let inside : link.to < routers sizes = subst (λ r. r < routers sizes) found.2
      (mul-add-lt found.0.row width found.0.column sizes.height step.1.1 step.1.0) in
      let there = offset_is found.0 link.to link.side inside (omega (arith, link.side_outward))
      (ap (position_of width) (sym found.2) ∙ position_router width found.0 step.1.0) in
      ap (λ o. (o + sizes.hop) % period) there
      ∙ (ends sizes.hop period link.side from found.0 p step.0 ∙ ap (λ o. o % period) (sym here))

pub built_offsets_keep : (sizes : Sizes) (period : ℕ) → BuiltKeep sizes period
built_offsets_keep sizes period limits = record {
  counted = built_length sizes period;
  below = built_below sizes period (omega arith);
  wave = built_wave sizes period (omega arith) (omega arith);
}

-- with built offsets a timetable is accepted exactly when its sizes and slots are
pub built_keeps : (sizes : Sizes) (slots : List ℕ) → Assigned sizes slots → Keeps (timetable sizes slots (built sizes (length slots)))
built_keeps sizes slots a =
    let offsets = built_offsets_keep sizes (length slots) a.limits in
    record { assigned = a; counted = offsets.counted; below = offsets.below; wave = offsets.wave }

pub decides_assigned : (sizes : Sizes) (slots : List ℕ) (r : Bool)
    → Decides r (Keeps (timetable sizes slots (built sizes (length slots)))) → Decides r (Assigned sizes slots)
decides_assigned sizes slots r d = ((λ e. (d.0 e).assigned), λ a. d.1 (built_keeps sizes slots a))
