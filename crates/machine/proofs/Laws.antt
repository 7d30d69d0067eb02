-- What plan, arbiter and route rule give the lemmas about runs, said by router numbers.
use Rattle.std.proofs.Common.{◌≡◌, ℕ, ◌+◌, ◌%◌, ◌<◌, true, [], ◌∷◌, length}
use Rattle.schedule.specs.Mesh.{hops, position_of}
use Rattle.schedule.specs.Timetable.{offset}
use Rattle.schedule.specs.Turns as turns
use Rattle.rules.specs.Arbiters as arbiters
use Rattle.machine.specs.Machine.{Machine, width, domains, hop, routers, owner, towards, beyond, depth}

unfoldable pub distance : Machine → ℕ → ℕ → ℕ
distance m from to = hops (position_of (width m) from) (position_of (width m) to)

-- the winner asks; a packet is home exactly where the rule names side 4, and else goes to a neighbour one hop nearer
pub record Lawful (m : Machine) : Type 0 where
  pub wins : (word sides : ℕ) → 0 < sides → sides < 32
      → ((m.choose word sides).0 < 5) × (arbiters.asks sides (m.choose word sides).0 ≡ true)
  pub only_arrived : (from to : ℕ) → from < routers m → to < routers m → towards m from to ≡ 4 → from ≡ to
  pub arrived : (at : ℕ) → at < routers m → towards m at at ≡ 4
  pub nearer : (from to : ℕ) → from < routers m → to < routers m → (from ≡ to → ⊥)
      → (next : ℕ) × (beyond m from (towards m from to) ≡ next ∷ []) × (distance m next to + 1 ≡ distance m from to)

-- the wave rule, and a slot for each domain
pub record Timed (m : Machine) : Type 0 where
  pub wave : (from side to : ℕ) → from < routers m → side < 4 → beyond m from side ≡ to ∷ []
      → (offset m.timetable.offsets to side + hop m) % length m.timetable.slots
      ≡ offset m.timetable.offsets from side % length m.timetable.slots
  pub turn : (domain : ℕ) → domain < domains m
      → (k : ℕ) × (k < length m.timetable.slots) × (turns.turn m.timetable.slots k ≡ domain)

-- all that the lemmas about runs want of a machine
pub record Kept (m : Machine) : Type 0 where
  pub lawful : Lawful m
  pub timed : Timed m
  pub hop_some : 0 < hop m
  pub depth_some : 0 < depth m
  pub domains_some : 0 < domains m
  pub routers_some : 0 < routers m
  pub owned : (router port cycle : ℕ) → owner m router port cycle < domains m
