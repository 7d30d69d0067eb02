-- What the program prints for a block of input: frame by frame, deliveries and refusals.
use Rattle.std.specs.Prelude.{ℕ, cond, List, [], ◌∷◌, ◌++◌, length, Some, None, Option, nat_lt}
use Rattle.std.specs.Option.{option_map}
use Rattle.schedule.specs.declared.refusal.Refusal.{Refusal}
use Rattle.schedule.specs.declared.refusal.Refusal.TheVariants.{NotAFrame}
use Rattle.schedule.specs.declared.sizes.Sizes.{Sizes}
use Rattle.schedule.specs.Built.{built}
use Rattle.schedule.specs.Timetable.{Timetable, timetable}
use Rattle.schedule.specs.Verdict.{earliest, verdict}
use Rattle.frames.specs.declared.choices.PayloadKind.{PayloadKind}
use Rattle.frames.specs.declared.choices.PayloadKind.TheVariants.{Word, Record}
use Rattle.frames.specs.Frames.{PlanValue, FrameValue, plan, inject, steps, decoded}
use Rattle.frames.specs.Hex.{bytes_of}
use Rattle.frames.specs.Limits.{excess, refusal_of}
use Rattle.frames.specs.Lines.{LineText, ended, unended, all_lines}
use Rattle.frames.specs.declared.payload.Collection.{Collection}
use Rattle.machine.specs.Calls.{opening}
use Rattle.machine.specs.Tables.{Tables}
use Rattle.frames.specs.Payloads.{word_form, record_form}
use Rattle.runner.specs.Running.{Running, at_first, machine_run, record_tables, with_records, with_words, word_tables}
use Rattle.runner.specs.Steps.{Left, left, injected, refusal_line, run_steps}

-- the mesh with tables of one kind put back
abbrev pub words_back : Running → Left (Tables ℕ) → Left Running
words_back s l = left (with_words s l.state) l.printed

abbrev pub records_back : Running → Left (Tables Collection) → Left Running
records_back s l = left (with_records s l.state) l.printed

-- the program runs at most 16 routers and 4 domains; too many routers are told as too many columns
abbrev pub program_check : Sizes → Option Refusal
program_check sizes = option_map refusal_of (excess sizes)

abbrev pub built_timetable : PlanValue → Timetable
built_timetable p = timetable p.sizes p.slots (built p.sizes (length p.slots))

-- the mesh with another plan, before it is opened
abbrev pub replanned : PlanValue → Running → Running
replanned p s = record {
  timetable = built_timetable p;
  arbiter = p.arbiter;
  route = p.route;
  payload = p.payload;
  cycle = s.cycle;
  queues = s.queues;
  places = s.places;
  words = s.words;
  word_payloads = s.word_payloads;
  record_payloads = s.record_payloads;
}

-- a mesh opened anew: cycle 0, every queue empty, every word 0
abbrev pub reopened : Running → Running
reopened s = with_words s (opening (machine_run s) (word_tables s)).tables

-- an accepted plan opens the mesh anew and prints nothing; a refused one leaves all as it was
abbrev pub planned_by : Option Refusal → PlanValue → Running → Left Running
planned_by None p s = left (reopened (replanned p s)) []
planned_by (Some why) p s = left s (refusal_line why)

abbrev pub planned : PlanValue → Running → Left Running
planned p s = planned_by (earliest (program_check p.sizes ∷ verdict (built_timetable p) ∷ [])) p s

-- an injection puts in a payload of the mesh's kind
abbrev pub injected_as : PayloadKind → Running → ℕ → ℕ → ℕ → List ℕ → Left Running
injected_as Word s router domain destination payload =
    words_back s (injected word_form (machine_run s) (word_tables s) router domain destination payload)
injected_as Record s router domain destination payload =
    records_back s (injected record_form (machine_run s) (record_tables s) router domain destination payload)

abbrev pub steps_as : PayloadKind → Running → ℕ → Left Running
steps_as Word s count = words_back s (run_steps word_form (machine_run s) count (word_tables s))
steps_as Record s count = records_back s (run_steps record_form (machine_run s) count (record_tables s))

-- what a frame does
unfoldable pub framed : FrameValue → Running → Left Running
framed (plan p) s = planned p s
framed (inject router domain destination payload) s = injected_as s.payload s router domain destination payload
framed (steps count) s = steps_as s.payload s count

abbrev pub not_a_frame : Running → Left Running
not_a_frame s = left s (refusal_line NotAFrame)

abbrev pub framed_if : Option FrameValue → Running → Left Running
framed_if None s = not_a_frame s
framed_if (Some frame) s = framed frame s

abbrev pub framed_bytes : Option (List ℕ) → Running → Left Running
framed_bytes None s = not_a_frame s
framed_bytes (Some bytes) s = framed_if (decoded bytes) s

-- a line without its line feed is no frame
unfoldable pub framed_line : LineText → Running → Left Running
framed_line (ended text) s = framed_bytes (bytes_of text) s
framed_line (unended text) s = not_a_frame s

-- the lines, one after another
unfoldable pub printed_from : Running → List LineText → List ℕ
printed_from s [] = []
printed_from s (line ∷ lines) = (framed_line line s).printed ++ printed_from (framed_line line s).state lines

-- a block of more than 32,768 bytes is not read
unfoldable pub printed : List ℕ → List ℕ
printed input = cond (nat_lt 32768 (length input)) (refusal_line NotAFrame) (printed_from at_first (all_lines input))
