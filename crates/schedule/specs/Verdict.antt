-- The checks that a timetable must pass to become a plan, in order, each over the whole input; and what passing all of them means.
use Rattle.std.specs.Prelude.{◌≡◌, ℕ, ◌+◌, ◌*◌, ◌/◌, ◌%◌, Bool, false, cond, not, ◌&&◌, List, [], ◌∷◌, length, Some, None, Ok, Err, Option, Result, ◌==◌, nat_eq, nat_le, nat_lt, slice_index}
use Rattle.schedule.specs.declared.refusal.Refusal.{Refusal}
use Rattle.schedule.specs.declared.refusal.Refusal.TheVariants.{SizeOutOfLimits, OffsetCount, UnknownDomain, DomainWithoutSlot, OffsetTooLarge, WaveBroken}
use Rattle.schedule.specs.declared.sizes.Size.{Size}
use Rattle.schedule.specs.declared.sizes.Size.TheVariants.{Width, Height, Domains, Depth, Hop, Period}
use Rattle.schedule.specs.declared.sizes.Sizes.{Sizes}
use Rattle.schedule.specs.Limits.{largest}
use Rattle.schedule.specs.Mesh.{neighbour_of}
use Rattle.schedule.specs.Search.{first}
use Rattle.schedule.specs.Timetable.{Timetable, routers, ports, offset, share, From1To, SlotsNameDomains, DomainsHaveSlots, OffsetsBelow, WaveRule}

-- the first refusal of a list of checks, none where every check passes
abbrev pub earliest : List (Option Refusal) → Option Refusal
earliest [] = None
earliest (None ∷ checks) = earliest checks
earliest (Some why ∷ checks) = Some why

-- a refusal for the first of the numbers below n that fails
unfoldable pub refuse_first : (ℕ → Bool) → ℕ → (ℕ → Refusal) → Option Refusal
refuse_first fails n refusal = cond (nat_lt (first fails n) n) (Some (refusal (first fails n))) None

abbrev pub limit : Size → ℕ → Option Refusal
limit size n = cond (nat_le 1 n && nat_le n (largest size)) None (Some (SizeOutOfLimits size))

-- 2: the first size outside its limits
unfoldable pub size_check : Sizes → ℕ → Option Refusal
size_check sizes period =
    earliest
    (limit Width sizes.width ∷ limit Height sizes.height ∷ limit Domains sizes.domains ∷ limit Depth sizes.depth
    ∷ limit Hop sizes.hop ∷ limit Period period ∷ [])

-- 3: the offset list is not five offsets for each router
abbrev pub count_check : Sizes → List ℕ → Option Refusal
count_check sizes offsets = cond (length offsets == ports sizes) None (Some OffsetCount)

-- 4: the first slot that names a domain the plan does not have
unfoldable pub slot_check : Sizes → List ℕ → Option Refusal
slot_check sizes slots = refuse_first (λ k. nat_le sizes.domains (slice_index slots k)) (length slots) UnknownDomain

-- 5: the lowest domain that no slot names
unfoldable pub domain_check : Sizes → List ℕ → Option Refusal
domain_check sizes slots = refuse_first (λ d. nat_eq (share slots d) 0) sizes.domains DomainWithoutSlot

-- 6: the first offset that is not below the period
unfoldable pub offset_check : ℕ → List ℕ → Option Refusal
offset_check period offsets = refuse_first (λ k. nat_le period (slice_index offsets k)) (length offsets) (λ k. OffsetTooLarge (k / 5) (k % 5))

-- whether the wave breaks between a router and its neighbour on a side, if it has one there
abbrev pub breaks_at : Sizes → ℕ → List ℕ → ℕ → ℕ → Option ℕ → Bool
breaks_at sizes period offsets router side None = false
breaks_at sizes period offsets router side (Some to) =
    not ((offset offsets to side + sizes.hop) % period == offset offsets router side % period)

unfoldable pub breaks : Sizes → ℕ → List ℕ → ℕ → ℕ → Bool
breaks sizes period offsets router side =
    breaks_at sizes period offsets router side (neighbour_of sizes.width sizes.height router side)

-- 7: the first port, by router and then by side, at which the wave breaks
unfoldable pub wave_check : Sizes → ℕ → List ℕ → Option Refusal
wave_check sizes period offsets =
    refuse_first (λ k. breaks sizes period offsets (k / 4) (k % 4)) (routers sizes * 4) (λ k. WaveBroken (k / 4) (k % 4))

-- what a plan call answers for a timetable
abbrev pub verdict : Timetable → Option Refusal
verdict t =
    earliest
    (size_check t.sizes (length t.slots) ∷ count_check t.sizes t.offsets ∷ slot_check t.sizes t.slots
    ∷ domain_check t.sizes t.slots ∷ offset_check (length t.slots) t.offsets
    ∷ wave_check t.sizes (length t.slots) t.offsets ∷ [])

-- a verdict as a call answers it
abbrev pub answered : Option Refusal → Result (Unit {0}) Refusal
answered None = Ok tt
answered (Some why) = Err why

pub record WithinLimits (sizes : Sizes) (period : ℕ) : Type 0 where
  pub width : From1To 8 sizes.width
  pub height : From1To 8 sizes.height
  pub domains : From1To 8 sizes.domains
  pub depth : From1To 4 sizes.depth
  pub hop : From1To 8 sizes.hop
  pub period_limit : From1To 64 period

-- sizes within their limits, and slots that name each of the plan's domains and no other
pub record Assigned (sizes : Sizes) (slots : List ℕ) : Type 0 where
  pub limits : WithinLimits sizes (length slots)
  pub named : SlotsNameDomains sizes.domains slots
  pub shared : DomainsHaveSlots sizes.domains slots

-- what a timetable keeps exactly when it is accepted
pub record Keeps (t : Timetable) : Type 0 where
  pub assigned : Assigned t.sizes t.slots
  pub counted : length t.offsets ≡ ports t.sizes
  pub below : OffsetsBelow (length t.slots) t.offsets
  pub wave : WaveRule t.sizes (length t.slots) t.offsets
