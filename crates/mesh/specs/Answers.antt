-- Answers and effects of the calls on lent tables.
use Rattle.std.specs.Prelude.{◌+◌, List, [], ◌∷◌, Ok, Err, Option, Result}
use Rattle.schedule.specs.declared.refusal.Refusal.{Refusal}
use Rattle.schedule.specs.declared.refusal.Refusal.TheVariants.{TableTooShort, UnsoundTable}
use Rattle.machine.specs.declared.tables.Queue.{Queue}
use Rattle.machine.specs.Calls.{Answer, check, lengths, long_enough}
use Rattle.machine.specs.Machine.{Machine}
use Rattle.machine.specs.Tables.{Tables, sound}

-- an acceptance that tells no number is told as 0
abbrev pub without_number : Result (Unit {0}) Refusal → Answer
without_number (Ok tt) = Ok 0
without_number (Err why) = Err why

-- the first checks of an injection and of a room question: the tables are long enough and sound
abbrev pub table_checks : {P : Type 0} → Machine → Tables P → List (Option Refusal)
table_checks m t = check (long_enough m (lengths t 0 0)) TableTooShort ∷ check (sound m t) UnsoundTable ∷ []

-- a queue that a packet has joined
abbrev pub one_more : Queue → Queue
one_more q = record { first = q.first; count = q.count + 1 }
