-- The texts in which sides, sizes and refusals are printed.
use Rattle.std.specs.Prelude.{ℕ, List, ◌++◌, codes, decimal}
use Rattle.schedule.specs.declared.refusal.Refusal.{Refusal}
use Rattle.schedule.specs.declared.refusal.Refusal.TheVariants.{NotAFrame, SizeOutOfLimits, OffsetCount, UnknownDomain, DomainWithoutSlot, OffsetTooLarge, WaveBroken, TableTooShort, UnsoundTable, OutsideMesh, NoSuchDomain, QueueFull, CyclesSpent}
use Rattle.schedule.specs.declared.side.NoSuchSide.{NoSuchSide}
use Rattle.schedule.specs.declared.side.Side.{Side}
use Rattle.schedule.specs.declared.side.Side.TheVariants.{East, West, South, North, Local}
use Rattle.schedule.specs.declared.sizes.Size.{Size}
use Rattle.schedule.specs.declared.sizes.Size.TheVariants.{Width, Height, Domains, Depth, Hop, Period}
use Rattle.std.specs.Option.{unwrap_or}
use Rattle.schedule.specs.Limits.{largest}
use Rattle.schedule.specs.Sides.{side_of}

abbrev pub side_name : Side → List ℕ
side_name East = codes "east"
side_name West = codes "west"
side_name South = codes "south"
side_name North = codes "north"
side_name Local = codes "local"

abbrev pub no_side_text : NoSuchSide → List ℕ
no_side_text e = codes "no side has number " ++ decimal e.0

abbrev pub size_name : Size → List ℕ
size_name Width = codes "number of columns"
size_name Height = codes "number of rows"
size_name Domains = codes "number of domains"
size_name Depth = codes "number of queue places"
size_name Hop = codes "number of cycles a hop"
size_name Period = codes "number of slots"

-- a port by the side that it is on; a number above 4 is told as the last side
unfoldable pub port_name : ℕ → List ℕ
port_name port = side_name (unwrap_or (side_of port) Local)

-- why, and where
abbrev pub refusal_text : Refusal → List ℕ
refusal_text NotAFrame = codes "the line is not a frame"
refusal_text (SizeOutOfLimits size) = codes "the " ++ size_name size ++ codes " is not from 1 to " ++ decimal (largest size)
refusal_text OffsetCount = codes "there are not five offsets for each router"
refusal_text (UnknownDomain slot) = codes "slot " ++ decimal slot ++ codes " names a domain that the plan does not have"
refusal_text (DomainWithoutSlot domain) = codes "domain " ++ decimal domain ++ codes " has no slot"
refusal_text (OffsetTooLarge router port) =
    codes "the offset of router " ++ (decimal router ++ (codes ", port " ++ (port_name port ++ codes ", is not below the number of slots")))
refusal_text (WaveBroken router side) =
    codes "the wave breaks from router " ++ (decimal router ++ (codes " to its neighbour " ++ port_name side))
refusal_text TableTooShort = codes "a table is shorter than the plan needs"
refusal_text UnsoundTable = codes "a queue record or a held packet is unsound"
refusal_text OutsideMesh = codes "the router or the destination is not in the mesh"
refusal_text NoSuchDomain = codes "the plan does not have the domain"
refusal_text QueueFull = codes "the queue is full"
refusal_text CyclesSpent = codes "no cycle is left to run"
