-- A timetable passes every check exactly when it keeps the limits, the slots, the offsets and the wave rule.
use Rattle.std.proofs.Common.{◌≡◌, ℕ, ◌+◌, ◌*◌, ◌/◌, ◌%◌, ◌<◌, Bool, true, false, not, ◌&&◌, eqb, leb, List, ◌∷◌, length, get_or, Some, None, Option, refl, ap, arith}
use Rattle.std.proofs.lemmas.Nat.{div-mul-add, mod-mul-add, div_below, mod_below}
use Rattle.std.proofs.lemmas.Bool.{leb-true, leb-false, le-leb, lt-leb, eqb-true, eqb-false, eq-eqb, ne_eqb, and_parts, and_from, not-false}
use Rattle.schedule.specs.declared.refusal.Refusal.{Refusal}
use Rattle.schedule.specs.declared.refusal.Refusal.TheVariants.{UnknownDomain, DomainWithoutSlot, OffsetTooLarge, WaveBroken}
use Rattle.schedule.specs.declared.sizes.Size.{Size}
use Rattle.schedule.specs.declared.sizes.Size.TheVariants.{Width, Height, Domains, Depth, Hop, Period}
use Rattle.schedule.specs.declared.sizes.Sizes.{Sizes}
use Rattle.schedule.specs.Limits.{largest}
use Rattle.schedule.specs.Mesh.{neighbour_of}
use Rattle.schedule.specs.Timetable.{Timetable, routers, ports, offset, share, From1To, Link, WaveRule}
use Rattle.schedule.specs.Verdict.{earliest, limit, size_check, count_check, slot_check, domain_check, offset_check, breaks_at, breaks, wave_check, verdict, WithinLimits, Keeps}
use Rattle.schedule.proofs.Refuse.{refused_none, none_fails}

-- no refusal at the head of a chain of checks, and none in the rest
none_parts : (check : Option Refusal) (checks : List (Option Refusal)) → earliest (check ∷ checks) ≡ None
    → (check ≡ None) × (earliest checks ≡ None)
none_parts None checks e = (refl, e)
none_parts (Some why) checks e = absurd cc

none_from : (check : Option Refusal) (checks : List (Option Refusal)) → check ≡ None → earliest checks ≡ None
    → earliest (check ∷ checks) ≡ None
none_from check checks e f = rw e f

limit_kept : (size : Size) (n : ℕ) → limit size n ≡ None → From1To (largest size) n
limit_kept size n e = go (leb 1 n && leb n (largest size)) refl
  where
    go : (b : Bool) → (leb 1 n && leb n (largest size)) ≡ b → From1To (largest size) n
    go true t = let p = and_parts (leb 1 n) (leb n (largest size)) t in (leb-true 1 n p.0, leb-true n (largest size) p.1)
    go false t = absurd (let f = rw t at e in cc)

limit_passes : (size : Size) (n : ℕ) → From1To (largest size) n → limit size n ≡ None
limit_passes size n h = let t = and_from (leb 1 n) (leb n (largest size)) (le-leb 1 n h.0) (le-leb n (largest size) h.1) in rw t

pub sizes_kept : (sizes : Sizes) (period : ℕ) → size_check sizes period ≡ None → WithinLimits sizes period
unfolding size_check
sizes_kept sizes period e =
    let a = none_parts _ _ e in
    let b = none_parts _ _ a.1 in
    let c = none_parts _ _ b.1 in
    let d = none_parts _ _ c.1 in
    let f = none_parts _ _ d.1 in
    let g = none_parts _ _ f.1 in
    record {
      width = limit_kept Width sizes.width a.0;
      height = limit_kept Height sizes.height b.0;
      domains = limit_kept Domains sizes.domains c.0;
      depth = limit_kept Depth sizes.depth d.0;
      hop = limit_kept Hop sizes.hop f.0;
      period_limit = limit_kept Period period g.0;
    }

pub sizes_pass : (sizes : Sizes) (period : ℕ) → WithinLimits sizes period → size_check sizes period ≡ None
unfolding size_check
sizes_pass sizes period h =
    rw (
      limit_passes Width sizes.width h.width,
      limit_passes Height sizes.height h.height,
      limit_passes Domains sizes.domains h.domains,
      limit_passes Depth sizes.depth h.depth,
      limit_passes Hop sizes.hop h.hop,
      limit_passes Period period h.period_limit,
    )

count_kept : (sizes : Sizes) (offsets : List ℕ) → count_check sizes offsets ≡ None → length offsets ≡ ports sizes
count_kept sizes offsets e = go (eqb (length offsets) (ports sizes)) refl
  where
    go : (b : Bool) → eqb (length offsets) (ports sizes) ≡ b → length offsets ≡ ports sizes
    go true t = eqb-true (length offsets) (ports sizes) t
    go false t = absurd (let f = rw t at e in cc)

-- the wave does not break between a router and the neighbour that it has
unbroken : (sizes : Sizes) (period : ℕ) (offsets : List ℕ) (link : Link sizes)
    → breaks sizes period offsets link.from link.side ≡ false
    → (offset offsets link.to link.side + sizes.hop) % period ≡ offset offsets link.from link.side % period
unfolding breaks
unbroken sizes period offsets link e = let f = rw link.leads at e in eqb-true _ _ (not-false _ f)

in_step : (sizes : Sizes) (period : ℕ) (offsets : List ℕ) → WaveRule sizes period offsets
    → (router side : ℕ) → router < routers sizes → side < 4 → breaks sizes period offsets router side ≡ false
unfolding breaks
in_step sizes period offsets wave router side l m = go (neighbour_of sizes.width sizes.height router side) refl
  where
    go : (beside : Option ℕ) → neighbour_of sizes.width sizes.height router side ≡ beside
        → breaks_at sizes period offsets router side beside ≡ false
    go None e = refl
    go (Some to) e =
        let link : Link sizes =
        record { from = router; side = side; to = to; from_inside = l; side_outward = m; leads = e } in
        ap not (eq-eqb _ _ (wave link))

wave_kept : (sizes : Sizes) (period : ℕ) (offsets : List ℕ) → wave_check sizes period offsets ≡ None → WaveRule sizes period offsets
unfolding wave_check
wave_kept sizes period offsets e link =
    let r = link.from in
    let s = link.side in
    let d : (r * 4 + s) / 4 ≡ r = div-mul-add r 4 s link.side_outward in
    let m : (r * 4 + s) % 4 ≡ s = mod-mul-add r 4 s link.side_outward in
    let f = none_fails (λ k. breaks sizes period offsets (k / 4) (k % 4)) (routers sizes * 4) (λ k. WaveBroken (k / 4) (k % 4)) e
    (r * 4 + s) (omega (arith, link.from_inside, link.side_outward)) in
    unbroken sizes period offsets link (rw (d, m) at f)

-- what an accepted timetable keeps
pub accepted_keeps : (t : Timetable) → verdict t ≡ None → Keeps t
unfolding slot_check domain_check offset_check
accepted_keeps t e =
    let a = none_parts _ _ e in
    let b = none_parts _ _ a.1 in
    let c = none_parts _ _ b.1 in
    let d = none_parts _ _ c.1 in
    let f = none_parts _ _ d.1 in
    let g = none_parts _ _ f.1 in
    record {
      assigned = record {
        limits = sizes_kept t.sizes (length t.slots) a.0;
        named = λ k l. leb-false _ _ (none_fails (λ i. leb t.sizes.domains (get_or t.slots i 0)) _ UnknownDomain c.0 k l);
        shared = λ k l. (let n = eqb-false _ _ (none_fails (λ i. eqb (share t.slots i) 0) _ DomainWithoutSlot d.0 k l) in omega arith);
      };
      counted = count_kept t.sizes t.offsets b.0;
      below = λ k l. leb-false _ _
          (none_fails (λ i. leb (length t.slots) (get_or t.offsets i 0)) _ (λ i. OffsetTooLarge (i / 5) (i % 5)) f.0 k l);
      wave = wave_kept t.sizes (length t.slots) t.offsets g.0;
    }

-- what keeps all this is accepted
pub keeps_accepted : (t : Timetable) → Keeps t → verdict t ≡ None
unfolding slot_check domain_check offset_check wave_check
keeps_accepted t h =
    let period = length t.slots in
    let slots_pass : slot_check t.sizes t.slots ≡ None = refused_none _ _ _ (λ k l. lt-leb _ _ (h.assigned.named k l)) in
    let domains_pass : domain_check t.sizes t.slots ≡ None =
    refused_none (λ d. eqb (share t.slots d) 0) _ _ (λ k l. ne_eqb (share t.slots k) 0 (λ e. omega (arith, h.assigned.shared k l))) in
    let offsets_pass : offset_check period t.offsets ≡ None = refused_none _ _ _ (λ k l. lt-leb _ _ (h.below k l)) in
    let wave_passes : wave_check t.sizes period t.offsets ≡ None =
    refused_none (λ k. breaks t.sizes period t.offsets (k / 4) (k % 4)) (routers t.sizes * 4) (λ k. WaveBroken (k / 4) (k % 4))
    (λ k l. in_step t.sizes period t.offsets h.wave (k / 4) (k % 4)
    (div_below k 4 (routers t.sizes) (omega arith) l) (mod_below k 4 (omega arith))) in
    let enough = eq-eqb (length t.offsets) (ports t.sizes) h.counted in
    let count_passes : count_check t.sizes t.offsets ≡ None = rw enough in
    none_from _ _ (sizes_pass t.sizes period h.assigned.limits)
    (none_from _ _ count_passes
    (none_from _ _ slots_pass (none_from _ _ domains_pass (none_from _ _ offsets_pass (none_from _ _ wave_passes refl)))))
