-- What an injection and a row of steps print, and the tables that they leave, for a payload of either kind.
use Rattle.std.specs.Prelude.{ℕ, zero, suc, ◌+◌, List, [], ◌∷◌, ◌++◌, Ok, Err}
use Rattle.std.specs.List.{range_with_len, flat_map}
use Rattle.schedule.specs.declared.refusal.Refusal.{Refusal}
use Rattle.frames.specs.Hex.{hex_line}
use Rattle.frames.specs.Output.{delivery_bytes, refusal_bytes}
use Rattle.machine.specs.Calls.{Answer, answer, lengths, outcome, step_refusal, inject}
use Rattle.machine.specs.Machine.{Machine, owner, routers}
use Rattle.machine.specs.Moves.{cycle_moves, handed_over, moved}
use Rattle.machine.specs.Packets.{Packet}
use Rattle.machine.specs.Tables.{Tables, sound}
use Rattle.frames.specs.Payloads.{Form}

-- what is left, and what was printed on the way
pub record Left (X : Type 0) : Type 0 where
  pub state : X
  pub printed : List ℕ

abbrev pub left : {X : Type 0} → X → List ℕ → Left X
left state printed = record { state = state; printed = printed }

-- the same behind what was printed before
abbrev pub behind : {X : Type 0} → List ℕ → Left X → Left X
behind before l = left l.state (before ++ l.printed)

abbrev pub refusal_line : Refusal → List ℕ
refusal_line why = hex_line (refusal_bytes why)

-- a refused call prints its refusal, an accepted injection nothing
abbrev pub refusal_lines : Answer → List ℕ
refusal_lines (Ok n) = []
refusal_lines (Err why) = refusal_line why

unfoldable pub injected : {P : Type 0} → Form P → Machine → Tables P → ℕ → ℕ → ℕ → List ℕ → Left (Tables P)
injected form m t router domain destination payload =
    let o = outcome m t (inject router domain destination (form.value payload)) in left o.tables (refusal_lines o.answer)

-- the line of the packet that a router's own port hands over, if it does
unfoldable pub delivery_line : {P : Type 0} → Form P → ℕ → ℕ → ℕ → List (Packet P) → List ℕ
delivery_line form cycle router domain [] = []
delivery_line form cycle router domain (x ∷ xs) =
    hex_line (delivery_bytes cycle router domain x.source (form.bytes x.payload))

unfoldable pub router_line : {P : Type 0} → Form P → Machine → Tables P → ℕ → List ℕ
router_line form m t router =
    delivery_line form t.cycle router (owner m router 4 t.cycle) (handed_over m t router)

-- the deliveries of a cycle, router by router
unfoldable pub delivery_lines : {P : Type 0} → Form P → Machine → Tables P → List ℕ
delivery_lines form m t = flat_map (router_line form m t) (range_with_len 0 (routers m))

-- what a step answers that is lent delivery tables for 16 routers
unfoldable pub step_answer : {P : Type 0} → Machine → Tables P → Answer
step_answer m t = answer (step_refusal m (sound m t) (lengths t 16 16) t.cycle) t.cycle

unfoldable pub stepped : {P : Type 0} → Machine → Tables P → Tables P
stepped m t = moved m (cycle_moves m t) (t.cycle + 1) t

abbrev pub after_step : {P : Type 0} → Form P → Machine → Tables P → Answer → Left (Tables P) → Left (Tables P)
after_step form m t (Ok cycle) later = behind (delivery_lines form m t) later
after_step form m t (Err why) later = left t (refusal_line why)

-- so many steps; a refused one prints its refusal and drops the rest
unfoldable pub run_steps : {P : Type 0} → Form P → Machine → ℕ → Tables P → Left (Tables P)
run_steps form m zero t = left t []
run_steps form m (suc count) t = after_step form m t (step_answer m t) (run_steps form m count (stepped m t))
