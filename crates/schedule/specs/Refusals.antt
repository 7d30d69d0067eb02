-- The list of refusals: the number of each case and its values.
use Rattle.std.specs.Prelude.{ℕ, List, [], ◌∷◌}
use Rattle.schedule.specs.declared.refusal.Refusal.{Refusal}
use Rattle.schedule.specs.declared.refusal.Refusal.TheVariants.{NotAFrame, SizeOutOfLimits, OffsetCount, UnknownDomain, DomainWithoutSlot, OffsetTooLarge, WaveBroken, TableTooShort, UnsoundTable, OutsideMesh, NoSuchDomain, QueueFull, CyclesSpent}
use Rattle.schedule.specs.declared.sizes.Size.{Size}
use Rattle.schedule.specs.declared.sizes.Size.TheVariants.{Width, Height, Domains, Depth, Hop, Period}

-- the sizes in the order in which they are checked
abbrev pub size_number : Size → ℕ
size_number Width = 0
size_number Height = 1
size_number Domains = 2
size_number Depth = 3
size_number Hop = 4
size_number Period = 5

-- a refusal's number, and the place that it tells
pub record Case : Type 0 where
  pub number : ℕ
  pub place : List ℕ

abbrev pub case : Refusal → Case
case NotAFrame = record { number = 1; place = [] }
case (SizeOutOfLimits size) = record { number = 2; place = size_number size ∷ [] }
case OffsetCount = record { number = 3; place = [] }
case (UnknownDomain slot) = record { number = 4; place = slot ∷ [] }
case (DomainWithoutSlot domain) = record { number = 5; place = domain ∷ [] }
case (OffsetTooLarge router port) = record { number = 6; place = router ∷ port ∷ [] }
case (WaveBroken router side) = record { number = 7; place = router ∷ side ∷ [] }
case TableTooShort = record { number = 8; place = [] }
case UnsoundTable = record { number = 9; place = [] }
case OutsideMesh = record { number = 10; place = [] }
case NoSuchDomain = record { number = 11; place = [] }
case QueueFull = record { number = 12; place = [] }
case CyclesSpent = record { number = 13; place = [] }

abbrev pub number : Refusal → ℕ
number refusal = (case refusal).number
