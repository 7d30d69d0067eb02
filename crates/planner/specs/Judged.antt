-- What becomes of a line of a planner's file, and of the plan that the caller holds.
use Rattle.std.specs.Prelude.{ℕ, List, [], ◌∷◌, ◌++◌, length, Some, None, Ok, Err, Option, Result, slice_index, codes, decimal}
use Rattle.schedule.specs.declared.refusal.Refusal.{Refusal}
use Rattle.schedule.specs.declared.refusal.Refusal.TheVariants.{NotAFrame}
use Rattle.schedule.specs.Built.{built}
use Rattle.schedule.specs.Names.{refusal_text}
use Rattle.schedule.specs.Refusals.{number}
use Rattle.schedule.specs.Timetable.{Timetable, timetable}
use Rattle.schedule.specs.Verdict.{verdict}
use Rattle.frames.specs.Frames.{PlanValue, GivenValue, FrameValue, plan, inject, steps, frame_bytes, decoded, given_of}
use Rattle.frames.specs.Hex.{bytes_of, hex_of}
use Rattle.frames.specs.Lines.{LineText, ended, unended}
use Rattle.frames.specs.declared.choices.ArbiterKind.{ArbiterKind}
use Rattle.frames.specs.declared.choices.RouteKind.{RouteKind}
use Rattle.frames.specs.declared.choices.PayloadKind.{PayloadKind}
use Rattle.planner.specs.declared.judgement.Accepted.{Accepted}
use Rattle.planner.specs.declared.judgement.Rejection.{Rejection}
use Rattle.planner.specs.declared.judgement.Rejection.TheVariants.{Refused, AnotherKind}
use Rattle.planner.specs.declared.judgement.OtherKind.{OtherKind}
use Rattle.planner.specs.declared.judgement.OtherKind.TheVariants.{Injection, Steps}
use Rattle.planner.specs.declared.judgement.Offsets.{Offsets}
use Rattle.planner.specs.declared.judgement.Offsets.TheVariants.{Built, Given}

-- what a judgement tells: the choices of an accepted plan and where its offsets come from, a refusal, or a frame that is no plan, by its number
pub data JudgementValue : Type 0 where
  accepted : (arbiter : ArbiterKind) (route : RouteKind) (payload : PayloadKind) (offsets : Offsets) → JudgementValue
  refused : (refusal : Refusal) → JudgementValue
  another_kind : (number : ℕ) → JudgementValue

-- the number of a kind's frames
abbrev pub kind_number : OtherKind → ℕ
kind_number Injection = 2
kind_number Steps = 3

abbrev pub judgement_value : Result Accepted Rejection → JudgementValue
judgement_value (Ok a) = accepted a.choices.arbiter a.choices.route a.choices.payload a.offsets
judgement_value (Err (Refused refusal)) = refused refusal
judgement_value (Err (AnotherKind kind)) = another_kind (kind_number kind)

-- a judgement, and the timetable that the caller's plan holds afterwards
pub record Left : Type 0 where
  pub judgement : JudgementValue
  pub held : Timetable

abbrev pub left : JudgementValue → Timetable → Left
left judgement held = record { judgement = judgement; held = held }

-- a timetable is taken up where no check refuses it
abbrev pub tried_by : Option Refusal → PlanValue → Offsets → Timetable → Timetable → Left
tried_by None p offsets new held = left (accepted p.arbiter p.route p.payload offsets) new
tried_by (Some why) p offsets new held = left (refused why) held

abbrev pub tried : PlanValue → Offsets → List ℕ → Timetable → Left
tried p offsets list held =
    tried_by (verdict (timetable p.sizes p.slots list)) p offsets (timetable p.sizes p.slots list) held

-- a frame that is no plan is told by its number, its first byte
abbrev pub another : FrameValue → Timetable → Left
another frame held = left (another_kind (slice_index (frame_bytes frame) 0)) held

-- a plan frame has its offsets built
abbrev pub judged_frame : FrameValue → Timetable → Left
judged_frame (plan p) held = tried p Built (built p.sizes (length p.slots)) held
judged_frame (inject router domain destination payload) held = another (inject router domain destination payload) held
judged_frame (steps count) held = another (steps count) held

-- a planner's own frame brings its offsets
abbrev pub judged_given : Option GivenValue → Timetable → Left
judged_given None held = left (refused NotAFrame) held
judged_given (Some g) held = tried g.plan Given g.offsets held

abbrev pub judged_as : Option FrameValue → Option GivenValue → Timetable → Left
judged_as (Some frame) given held = judged_frame frame held
judged_as None given held = judged_given given held

abbrev pub judged_bytes : Option (List ℕ) → Timetable → Left
judged_bytes None held = left (refused NotAFrame) held
judged_bytes (Some bytes) held = judged_as (decoded bytes) (given_of bytes) held

-- a line without its line feed is no frame
abbrev pub judged : LineText → Timetable → Left
judged (ended text) held = judged_bytes (bytes_of text) held
judged (unended text) held = left (refused NotAFrame) held

-- the words of a judgement in print
abbrev pub offsets_name : Offsets → List ℕ
offsets_name Built = codes "built"
offsets_name Given = codes "given"

abbrev pub other_name : OtherKind → List ℕ
other_name Injection = codes "an injection"
other_name Steps = codes "a number of steps"

-- a frame that is no plan is told by the two digits of its number, as a frame is written
abbrev pub rejection_text : Rejection → List ℕ
rejection_text (Refused refusal) = codes "refused " ++ (decimal (number refusal) ++ (codes ": " ++ refusal_text refusal))
rejection_text (AnotherKind kind) = codes "refused, no plan: frame " ++ (hex_of (kind_number kind ∷ []) ++ (codes " is " ++ other_name kind))
