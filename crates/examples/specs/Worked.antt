-- Examples worked by hand, as statements about the definitions that the contracts use.
use Rattle.std.specs.Prelude.{◌≡◌, ℕ, [], ◌∷◌, replicate, Some, None, Ok, Err}
use Rattle.schedule.specs.declared.refusal.Refusal.TheVariants.{SizeOutOfLimits, WaveBroken, QueueFull}
use Rattle.schedule.specs.declared.sizes.Size.TheVariants.{Period}
use Rattle.schedule.specs.declared.sizes.Sizes.{Sizes}
use Rattle.schedule.specs.Built.{built}
use Rattle.schedule.specs.Mesh.{position}
use Rattle.schedule.specs.Plans.{smallest}
use Rattle.schedule.specs.Refusals.{number}
use Rattle.schedule.specs.Timetable.{Timetable, timetable, offset}
use Rattle.schedule.specs.Turns.{gap}
use Rattle.schedule.specs.Verdict.{verdict}
use Rattle.machine.specs.Calls.{Call, inject, step}
use Rattle.machine.specs.Machine.{Machine}
use Rattle.machine.specs.Promise.{Alone, Injected, Opens, Path, bound}
use Rattle.machine.specs.Runs.{Event, happens, new, next, whole}
use Rattle.machine.specs.Tables.{Tables, at, no_packets, tables}
use Rattle.rules.specs.Arbiters.{grant, fixed, rotating, order_list}
use Rattle.rules.specs.Routes.{columns_first, rows_first}

-- one row of so many routers, one domain, one place in a queue
abbrev pub row_of : ℕ → ℕ → Sizes
row_of width hop = record { width = width; height = 1; domains = 1; depth = 1; hop = hop }

-- two routers in a row, hop 1, two slots, and every offset 0, both east offsets among them
abbrev pub standing_still : Timetable
standing_still = timetable (row_of 2 1) (0 ∷ 0 ∷ []) (replicate 10 0)

-- one router and so many slots
abbrev pub slots_of_one : ℕ → Timetable
slots_of_one n = timetable (row_of 1 1) (replicate n 0) (built (row_of 1 1) n)

-- the smallest plan, and the sample's: two routers in a row, two domains, queues of two places, hop 1, slots 0 and 1
abbrev pub smallest_machine : Machine
smallest_machine = record { timetable = smallest; choose = grant fixed; route = columns_first }

abbrev pub sample_sizes : Sizes
sample_sizes = record { width = 2; height = 1; domains = 2; depth = 2; hop = 1 }

abbrev pub sample_machine : Machine
sample_machine =
    record { timetable = timetable sample_sizes (0 ∷ 1 ∷ []) (built sample_sizes 2); choose = grant rotating; route = columns_first }

-- tables with so many queue records and places
abbrev pub clean_tables : ℕ → ℕ → Tables ℕ
clean_tables queues places =
    tables 0 (replicate queues no_packets) (replicate places (record { destination = 0; source = 0; ready = 0 })) (replicate places 0) (replicate queues 0)

-- a new mesh over them
abbrev pub new_of : Machine → ℕ → ℕ → Tables ℕ
new_of m queues places = new m (clean_tables queues places)

-- a call that is lent the tables as they are
abbrev pub lent_whole : Call ℕ → Event ℕ
lent_whole call = record { queues = whole []; places = whole []; payloads = whole []; words = whole []; call = call }

-- an injection with payload 300, and a step into delivery tables for two routers
abbrev pub injects : ℕ → ℕ → ℕ → Event ℕ
injects router domain destination = lent_whole (inject router domain destination 300)

abbrev pub step_event : Event ℕ
step_event = lent_whole (step (replicate 2 (record { mark = 0; domain = 0; source = 0 })) (replicate 2 0))

-- the packet that router 1 sends to itself
abbrev pub own_packet : Injected ℕ
own_packet = record { domain = 0; source = 1; destination = 1; payload = 300 }

abbrev pub accepted_at_one : Tables ℕ
accepted_at_one = next sample_machine (new_of sample_machine 20 40) (injects 1 0 1)

pub record Worked : Type 0 where
  -- 5 slots and hop 3, in column 2 of row 0: the ports east and west have offsets 4 and 1
  pub east_of_5 : offset (built (row_of 3 3) 5) 2 0 ≡ 4
  pub west_of_5 : offset (built (row_of 3 3) 5) 2 1 ≡ 1
  -- 2 slots and hop 3, which is more, in column 1 of row 0: both have 1
  pub east_of_2 : offset (built (row_of 2 3) 2) 1 0 ≡ 1
  pub west_of_2 : offset (built (row_of 2 3) 2) 1 1 ≡ 1
  -- slots 0, 0, 1: gaps 2 and 3
  pub gap_of_0 : gap (0 ∷ 0 ∷ 1 ∷ []) 0 ≡ 2
  pub gap_of_1 : gap (0 ∷ 0 ∷ 1 ∷ []) 1 ≡ 3
  -- rotating, word 3, sides 0 and 4: side 4 wins, next word 0
  pub rotates : grant rotating 3 17 ≡ (4, 0)
  -- order list, word 0, sides 1 and 3: side 1 wins, next word 6352
  pub lists : grant order_list 0 10 ≡ (1, 6352)
  -- fixed, sides 2 and 3: side 2 wins
  pub fixes : grant fixed 0 12 ≡ (2, 0)
  -- two routers in a row, hop 1, two slots, both east offsets 0: the wave breaks at router 0, side east, which is refusal 7
  pub breaks : verdict standing_still ≡ Some (WaveBroken 0 0)
  pub broken_number : number (WaveBroken 0 0) ≡ 7
  -- from column 0, row 0 to column 2, row 1: east by columns first, south by rows first
  pub by_columns : columns_first (position 0 0) (position 2 1) ≡ 0
  pub by_rows : rows_first (position 0 0) (position 2 1) ≡ 2
  -- 64 slots are accepted, 65 are one size too many, which is refusal 2
  pub longest_period : verdict (slots_of_one 64) ≡ None
  pub longer_period : verdict (slots_of_one 65) ≡ Some (SizeOutOfLimits Period)
  pub longer_number : number (SizeOutOfLimits Period) ≡ 2
  -- one place in a queue: a second injection at one router and domain before any step finds it full, which is refusal 12
  pub second_injection : (happens smallest_machine (next smallest_machine (new_of smallest_machine 5 5) (injects 0 0 0)) (injects 0 0 0)).answer ≡ Err QueueFull
  pub full_number : number QueueFull ≡ 12
  -- the sample's plan, a packet of domain 0 for its own router 1, accepted in cycle 0: not delivered in cycle 0, delivered in cycle 1
  pub not_yet : at (happens sample_machine accepted_at_one step_event).deliveries 1 ≡ record { mark = 0; domain = 0; source = 0 } ∷ []
  pub delivered : at (happens sample_machine (next sample_machine accepted_at_one step_event) step_event).deliveries 1
      ≡ record { mark = 1; domain = 0; source = 1 } ∷ []
  pub delivered_payload : at (happens sample_machine (next sample_machine accepted_at_one step_event) step_event).delivered 1 ≡ 300 ∷ []
  pub delivered_in_1 : (happens sample_machine (next sample_machine accepted_at_one step_event) step_event).answer ≡ Ok 1
  -- and cycle 1 is the bound
  pub bound_is_1 : bound sample_machine 0 0 [] ≡ 1
  -- what the promise over runs asks of its runs can be met: tables that open, and that packet, alone until it is delivered
  pub opens : Opens sample_machine (clean_tables 20 40)
  pub path : Path sample_machine 1 1 []
  pub alone : Alone sample_machine own_packet (new_of sample_machine 20 40) (injects 1 0 1) (step_event ∷ step_event ∷ [])
