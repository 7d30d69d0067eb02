-- The arrays of a plan, read as the lists of its timetable.
use Rattle.std.proofs.Common.{◌≡◌, ℕ, ◌+◌, ◌-◌, ◌*◌, ◌%◌, ◌<◌, ◌≤◌, List, length, get_or, take, ap, ◌∙◌, arith, length-append, length-take}
use lib.ListN.{length-replicate}
use Rattle.std.proofs.lemmas.Nat.{mod_below}
use Rattle.std.proofs.lemmas.List.{get_or-take, length-take-le}
use Rattle.schedule.specs.declared.plan.Plan.{Plan}
use Rattle.schedule.specs.Timetable.{ports, offset, padded, routers}
use Rattle.schedule.specs.Turns.{turn}

-- an array that is the padding of its own front is as long as it was padded to
padded_whole : (n m : ℕ) (xs : List ℕ) → m ≤ n → xs ≡ padded n (take m xs) → length xs ≡ n
padded_whole n m xs l e =
    let whole : length xs ≡ length (take m xs) + (n - length (take m xs)) = ap length e ∙ simp (length-append, length-replicate) in
    let front = length-take m xs in
    omega arith

pub slots_length : (plan : Plan) → length (take plan.period plan.slots) ≡ plan.period
slots_length plan =
    let all = padded_whole 64 plan.period plan.slots plan.slotted.1 plan.slots_clear in
    length-take-le plan.period plan.slots (omega arith)

pub turn_is : (plan : Plan) (x : ℕ) → turn (take plan.period plan.slots) x ≡ get_or plan.slots (x % plan.period) 0
turn_is plan x =
    rw (slots_length plan) (get_or-take plan.period plan.slots (x % plan.period) 0 (mod_below x plan.period plan.slotted.0))

pub offset_is : (plan : Plan) (router port : ℕ) → router < routers plan.sizes → port < 5
    → offset (take (ports plan.sizes) plan.offsets) router port ≡ get_or plan.offsets (router * 5 + port) 0
offset_is plan router port l m = get_or-take (ports plan.sizes) plan.offsets (router * 5 + port) 0 (omega arith)
