-- A timetable, as a planner writes it down, and what it must keep to become a plan.
use Rattle.std.specs.Prelude.{◌≡◌, ℕ, ◌+◌, ◌-◌, ◌*◌, ◌%◌, ◌<◌, ◌≤◌, List, ◌++◌, length, replicate, Some, count_by, nat_eq, slice_index}
use Rattle.schedule.specs.declared.sizes.Sizes.{Sizes}
use Rattle.schedule.specs.Mesh.{neighbour_of}

-- sizes, a list of slots that each name a domain, and an offset for each port of each router
pub record Timetable : Type 0 where
  pub sizes : Sizes
  pub slots : List ℕ
  pub offsets : List ℕ

abbrev pub timetable : Sizes → List ℕ → List ℕ → Timetable
timetable sizes slots offsets = record { sizes = sizes; slots = slots; offsets = offsets }

abbrev pub routers : Sizes → ℕ
routers sizes = sizes.width * sizes.height

-- each router has five ports, one a side; port p of router r is entry r * 5 + p of a table of ports
abbrev pub ports : Sizes → ℕ
ports sizes = routers sizes * 5

abbrev pub offset : List ℕ → ℕ → ℕ → ℕ
offset offsets router port = slice_index offsets (router * 5 + port)

-- a list in an array of n entries: what lies past it is 0
abbrev pub padded : ℕ → List ℕ → List ℕ
padded n xs = xs ++ replicate (n - length xs) 0

-- how many slots name a domain
abbrev pub share : List ℕ → ℕ → ℕ
share slots domain = count_by (λ named. nat_eq named domain) slots

abbrev pub From1To : ℕ → ℕ → Type 0
From1To top n = (1 ≤ n) × (n ≤ top)

abbrev pub SlotsNameDomains : ℕ → List ℕ → Type 0
SlotsNameDomains domains slots = (k : ℕ) → k < length slots → slice_index slots k < domains

abbrev pub DomainsHaveSlots : ℕ → List ℕ → Type 0
DomainsHaveSlots domains slots = (d : ℕ) → d < domains → 1 ≤ share slots d

abbrev pub OffsetsBelow : ℕ → List ℕ → Type 0
OffsetsBelow period offsets = (k : ℕ) → k < length offsets → slice_index offsets k < period

-- a link of the mesh: from a router, over one of its sides 0 to 3, to the neighbour there
pub record Link (sizes : Sizes) : Type 0 where
  pub from : ℕ
  pub side : ℕ
  pub to : ℕ
  pub from_inside : from < routers sizes
  pub side_outward : side < 4
  pub leads : neighbour_of sizes.width sizes.height from side ≡ Some to

-- over each link, the neighbour's offset for the port on that side plus the cycles of a hop has the same remainder by the period as the
-- router's own offset for it: a packet that goes straight on meets its domain's turn again as it arrives
abbrev pub WaveRule : Sizes → ℕ → List ℕ → Type 0
WaveRule sizes period offsets =
    (link : Link sizes)
    → (offset offsets link.to link.side + sizes.hop) % period ≡ offset offsets link.from link.side % period
