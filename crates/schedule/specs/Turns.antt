-- Whose turn it is, and how long a domain waits for its next.
use Rattle.std.specs.Prelude.{ℕ, ◌+◌, ◌%◌, cond, List, length, ◌==◌, nat_eq, slice_index}
use Rattle.schedule.specs.Search.{first, largest}
use Rattle.schedule.specs.Timetable.{Timetable, offset}

-- the domain named by slot k of the list, taken as a ring
abbrev pub turn : List ℕ → ℕ → ℕ
turn slots k = slice_index slots (k % length slots)

-- the domain that a port belongs to in a cycle
abbrev pub owner : Timetable → ℕ → ℕ → ℕ → ℕ
owner t router port cycle = turn t.slots (cycle + offset t.offsets router port)

-- the cycles from slot k to the domain's next slot
abbrev pub until_next : List ℕ → ℕ → ℕ → ℕ
until_next slots domain k = 1 + first (λ j. nat_eq (turn slots (k + 1 + j)) domain) (length slots)

-- the same from a slot of the domain's own, 0 from any other
abbrev pub gap_from : List ℕ → ℕ → ℕ → ℕ
gap_from slots domain k = cond (slice_index slots k == domain) (until_next slots domain k) 0

-- the largest number of cycles from one of the domain's slots to its next
abbrev pub gap : List ℕ → ℕ → ℕ
gap slots domain = largest (gap_from slots domain) (length slots)
