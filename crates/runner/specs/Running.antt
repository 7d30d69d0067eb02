-- The mesh that the program runs: its timetable, the three choices, and the tables.
use Rattle.std.specs.Prelude.{ℕ, List, replicate}
use Rattle.schedule.specs.Plans.{smallest, timetable_of}
use Rattle.schedule.specs.Timetable.{Timetable}
use Rattle.frames.specs.declared.choices.ArbiterKind.{ArbiterKind}
use Rattle.frames.specs.declared.choices.ArbiterKind.TheVariants.{Fixed}
use Rattle.frames.specs.declared.choices.RouteKind.{RouteKind}
use Rattle.frames.specs.declared.choices.RouteKind.TheVariants.{ColumnsFirst}
use Rattle.frames.specs.declared.choices.PayloadKind.{PayloadKind}
use Rattle.frames.specs.declared.choices.PayloadKind.TheVariants.{Word}
use Rattle.frames.specs.declared.payload.Collection.{Collection}
use Rattle.machine.specs.declared.tables.Place.{Place}
use Rattle.machine.specs.declared.tables.Queue.{Queue}
use Rattle.machine.specs.Machine.{Machine}
use Rattle.machine.specs.Tables.{Tables, no_packets, tables}
use Rattle.runner.specs.declared.state.MeshTables.{MeshTables}
use Rattle.runner.specs.declared.state.RunningMesh.{RunningMesh}
use Rattle.frames.specs.Chosen.{arbiter_meant, route_meant}

-- payloads of each kind have a table of their own; that of the mesh's kind is in use
pub record Running : Type 0 where
  pub timetable : Timetable
  pub arbiter : ArbiterKind
  pub route : RouteKind
  pub payload : PayloadKind
  pub cycle : ℕ
  pub queues : List Queue
  pub places : List Place
  pub words : List ℕ
  pub word_payloads : List ℕ
  pub record_payloads : List Collection

-- the same of the program's own record
abbrev pub running : RunningMesh → Running
running mesh = record {
  timetable = timetable_of mesh.plan;
  arbiter = mesh.choices.arbiter;
  route = mesh.choices.route;
  payload = mesh.choices.payload;
  cycle = mesh.tables.cycle;
  queues = mesh.tables.queues;
  places = mesh.tables.places;
  words = mesh.tables.words;
  word_payloads = mesh.words.held;
  record_payloads = mesh.records.held;
}

abbrev pub machine_run : Running → Machine
machine_run s = record { timetable = s.timetable; choose = arbiter_meant s.arbiter; route = route_meant s.route }

-- what the program lends to a call: its tables, and payloads of one kind
abbrev pub lent : {P : Type 0} → MeshTables → List P → Tables P
lent mesh payloads = tables mesh.cycle mesh.queues mesh.places payloads mesh.words

-- the lent tables with the payloads of one kind, and the mesh with such tables put back
abbrev pub word_tables : Running → Tables ℕ
word_tables s = tables s.cycle s.queues s.places s.word_payloads s.words

abbrev pub record_tables : Running → Tables Collection
record_tables s = tables s.cycle s.queues s.places s.record_payloads s.words

abbrev pub with_words : Running → Tables ℕ → Running
with_words s t = record {
  timetable = s.timetable;
  arbiter = s.arbiter;
  route = s.route;
  payload = s.payload;
  cycle = t.cycle;
  queues = t.queues;
  places = t.places;
  words = t.words;
  word_payloads = t.payloads;
  record_payloads = s.record_payloads;
}

abbrev pub with_records : Running → Tables Collection → Running
with_records s t = record {
  timetable = s.timetable;
  arbiter = s.arbiter;
  route = s.route;
  payload = s.payload;
  cycle = t.cycle;
  queues = t.queues;
  places = t.places;
  words = t.words;
  word_payloads = s.word_payloads;
  record_payloads = t.payloads;
}

-- before any plan frame: the smallest plan, fixed priority, columns first, words, and no packet
unfoldable pub at_first : Running
at_first = record {
  timetable = smallest;
  arbiter = Fixed;
  route = ColumnsFirst;
  payload = Word;
  cycle = 0;
  queues = replicate 320 no_packets;
  places = replicate 1280 (record { destination = 0; source = 0; ready = 0 });
  words = replicate 320 0;
  word_payloads = replicate 1280 0;
  record_payloads = replicate 1280 (record { tank = 0; litres = 0 });
}
