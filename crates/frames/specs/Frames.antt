-- The frames that the programs read: the bytes of each, and the way back from bytes to a frame.
use Rattle.std.specs.Prelude.{◌≡◌, ℕ, ◌+◌, ◌<◌, ◌≤◌, cond, List, [], ◌∷◌, ◌++◌, length, take, drop, Some, None, Ok, Err, Option, Result, ◌==◌, nat_le, slice_index}
use Rattle.std.specs.Borrow.{Bor}
use Rattle.schedule.specs.declared.refusal.Refusal.{Refusal}
use Rattle.schedule.specs.declared.sizes.Sizes.{Sizes}
use Rattle.frames.specs.Choices.{arbiter_number, arbiter_of, route_number, route_of, payload_number, payload_of}
use Rattle.frames.specs.declared.choices.ArbiterKind.{ArbiterKind}
use Rattle.frames.specs.declared.choices.RouteKind.{RouteKind}
use Rattle.frames.specs.declared.choices.PayloadKind.{PayloadKind}
use Rattle.frames.specs.declared.choices.Choices.{Choices}
use Rattle.frames.specs.declared.frame.Frame.{Frame}
use Rattle.frames.specs.declared.frame.Frame.TheVariants.{Plan, Inject, Steps}
use Rattle.frames.specs.declared.given.GivenPlan.{GivenPlan}

pub record PlanValue : Type 0 where
  pub sizes : Sizes
  pub arbiter : ArbiterKind
  pub route : RouteKind
  pub payload : PayloadKind
  pub slots : List ℕ

-- a plan, and the offsets given with it
pub record GivenValue : Type 0 where
  pub plan : PlanValue
  pub offsets : List ℕ

-- what a frame tells a program to do
pub data FrameValue : Type 0 where
  plan : PlanValue → FrameValue
  inject : (router domain destination : ℕ) (payload : List ℕ) → FrameValue
  steps : (count : ℕ) → FrameValue

-- the bytes of a plan behind the frame's number: sizes, choices, the number of slots and the slots
abbrev pub plan_bytes : PlanValue → List ℕ
plan_bytes p =
    p.sizes.width ∷ p.sizes.height ∷ p.sizes.domains ∷ p.sizes.depth ∷ p.sizes.hop
    ∷ arbiter_number p.arbiter ∷ route_number p.route ∷ payload_number p.payload ∷ length p.slots ∷ p.slots

-- a frame's number and its values
abbrev pub frame_bytes : FrameValue → List ℕ
frame_bytes (plan p) = 1 ∷ plan_bytes p
frame_bytes (inject router domain destination payload) = 2 ∷ router ∷ domain ∷ destination ∷ payload
frame_bytes (steps count) = 3 ∷ count ∷ []

abbrev pub given_bytes : GivenValue → List ℕ
given_bytes g = 6 ∷ (plan_bytes g.plan ++ g.offsets)

-- a plan by its sizes, its choices and its slots
abbrev pub plan_value : Sizes → Choices → List ℕ → PlanValue
plan_value sizes choices slots =
    record { sizes = sizes; arbiter = choices.arbiter; route = choices.route; payload = choices.payload; slots = slots }

abbrev pub frame_value : Frame → FrameValue
frame_value (Plan sizes choices slots) = plan (plan_value sizes choices slots.now)
frame_value (Inject i) = inject i.router i.domain i.destination i.payload
frame_value (Steps count) = steps count

abbrev pub given_value : GivenPlan → GivenValue
given_value g = record {
  plan = plan_value g.sizes g.choices g.slots.now;
  offsets = g.offsets.now;
}

-- an answer, with the values of what it holds
abbrev pub told : {A B : Type 0} → (A → B) → Result A Refusal → Result B Refusal
told value (Ok answer) = Ok (value answer)
told value (Err refusal) = Err refusal

-- a plan by what its bytes name, where they name an arbiter, a route rule and a payload kind
abbrev pub chosen : Sizes → Option ArbiterKind → Option RouteKind → Option PayloadKind → List ℕ → List ℕ → Option GivenValue
chosen sizes None route payload slots offsets = None
chosen sizes (Some arbiter) None payload slots offsets = None
chosen sizes (Some arbiter) (Some route) None slots offsets = None
chosen sizes (Some arbiter) (Some route) (Some payload) slots offsets =
    Some (record { plan = record { sizes = sizes; arbiter = arbiter; route = route; payload = payload; slots = slots }; offsets = offsets })

-- the sizes that the first five bytes name
abbrev pub sizes_of : List ℕ → Sizes
sizes_of fields = record {
  width = slice_index fields 0;
  height = slice_index fields 1;
  domains = slice_index fields 2;
  depth = slice_index fields 3;
  hop = slice_index fields 4;
}

-- the plan that begins the fields, if nine bytes and as many slots as the ninth counts are there; what follows are offsets
abbrev pub plan_of : List ℕ → Option GivenValue
plan_of fields =
    cond (nat_le (9 + slice_index fields 8) (length fields))
    (chosen
    (sizes_of fields) (arbiter_of (slice_index fields 5)) (route_of (slice_index fields 6)) (payload_of (slice_index fields 7))
    (take (slice_index fields 8) (drop 9 fields)) (drop (slice_index fields 8) (drop 9 fields)))
    None

-- bytes split behind so many, where there are that many
abbrev pub Split : ℕ → List ℕ → Option (Bor (List ℕ) × Bor (List ℕ)) → Type 0
Split count bytes None = length bytes < count
Split count bytes (Some parts) =
    (count ≤ length bytes) × (parts.0.now ≡ take count bytes) × (parts.1.now ≡ drop count bytes)

-- a plan without offsets
abbrev pub bare : Option GivenValue → Option FrameValue
bare None = None
bare (Some given) = cond (length given.offsets == 0) (Some (plan given.plan)) None

-- seven bytes: router, domain, destination and the payload
abbrev pub injection_of : List ℕ → Option FrameValue
injection_of fields =
    cond (length fields == 7)
    (Some
    (inject (slice_index fields 0) (slice_index fields 1) (slice_index fields 2)
    (slice_index fields 3 ∷ slice_index fields 4 ∷ slice_index fields 5 ∷ slice_index fields 6 ∷ [])))
    None

-- one byte, the number of steps
abbrev pub steps_of : List ℕ → Option FrameValue
steps_of fields = cond (length fields == 1) (Some (steps (slice_index fields 0))) None

-- the frame of a number with these fields
abbrev pub frame_of : ℕ → List ℕ → Option FrameValue
frame_of kind fields =
    cond (kind == 1) (bare (plan_of fields))
    (cond (kind == 2) (injection_of fields) (cond (kind == 3) (steps_of fields) None))

-- the frame that has these bytes
abbrev pub decoded : List ℕ → Option FrameValue
decoded [] = None
decoded (kind ∷ fields) = frame_of kind fields

-- the plan and the offsets that have these bytes
abbrev pub given_of : List ℕ → Option GivenValue
given_of [] = None
given_of (kind ∷ fields) = cond (kind == 6) (plan_of fields) None

-- an injection has four payload bytes
abbrev pub Sound : FrameValue → Type 0
Sound (plan p) = Unit {0}
Sound (inject router domain destination payload) = length payload ≡ 4
Sound (steps count) = Unit {0}

-- bytes are decoded to a frame exactly where they are the frame's bytes
abbrev pub OneFrame : Type 0
OneFrame =
    (frame : FrameValue) (bytes : List ℕ)
    → (Sound frame × (frame_bytes frame ≡ bytes) → decoded bytes ≡ Some frame)
    × (decoded bytes ≡ Some frame → Sound frame × (frame_bytes frame ≡ bytes))

abbrev pub OneGiven : Type 0
OneGiven =
    (given : GivenValue) (bytes : List ℕ)
    → (given_bytes given ≡ bytes → given_of bytes ≡ Some given) × (given_of bytes ≡ Some given → given_bytes given ≡ bytes)
