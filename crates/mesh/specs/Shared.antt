-- What the structs of shared references stand for.
use Rattle.std.specs.Prelude.{ℕ}
use Rattle.schedule.specs.declared.geometry.Position.{Position}
use Rattle.machine.specs.Tables.{Tables, tables}
use Rattle.mesh.specs.declared.lent.Lent.{Lent}
use Rattle.mesh.specs.declared.outset.Outset as lent
use Rattle.mesh.specs.Heads.{Outset, outset}

-- the outset of a cycle, told the meaning of its route rules
abbrev pub outset_of : {A R : Type 0} → (R → Position → Position → ℕ) → lent.Outset A R → Outset
outset_of meaning s = outset s.plan.now (meaning s.rule.now) s.cycle s.queues.now s.places.now

-- the tables that a call is lent
abbrev pub tables_of : {P : Type 0} → Lent P → Tables P
tables_of s = tables s.cycle s.queues.now s.places.now s.payloads.now s.words.now
