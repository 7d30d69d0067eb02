use Rattle.std.proofs.Common.{◌≡◌, ℕ, List, ◌++◌, Some, None, vec_items, ap, ◌∙◌, arith}
use Rattle.std.proofs.lemmas.Result.{on_ok_weaker}
use Rattle.schedule.specs.declared.refusal.Refusal.{Refusal}
use Rattle.schedule.specs.declared.refusal.Refusal.TheVariants.{NotAFrame}
use Rattle.frames.specs.Frames.{decoded, frame_value}
use Rattle.frames.specs.Hex.{bytes_of}
use Rattle.runner.specs.Printed.{framed_line}
use Rattle.runner.specs.Running.{running}
use Rattle.runner.specs.Steps.{left, refusal_line}
use Rattle.runner.proofs.Taken.{there}
use Rattle.runner.proofs.state.RunningMesh.line.Goals as goal

pub returns-in-Ok : goal.returns-in-Ok
unfolding framed_line
returns-in-Ok c =
    let read : bytes_of c.in-Ended.text.now ≡ Some c.as_slice.result.now = grind arith in
    let found = there (decoded c.as_slice.result.now) (frame_value c.in-Ok.frame) NotAFrame c.in-Ok.ensures.frame in
    rw (c.in-Ended.is, read, found) c.frame.ensures

pub returns : goal.returns
unfolding framed_line
returns c =
    let read : bytes_of c.in-Ended.text.now ≡ Some c.as_slice.result.now = grind arith in
    let none : decoded c.as_slice.result.now ≡ None = grind arith in
    let why : c.in-Err.why ≡ NotAFrame = grind arith in
    rw (c.in-Ended.is, read, none)
    (on_ok_weaker c.append_refusal-in-Err.result
    (λ (w : vec_items c.append_refusal-in-Err.new.out ≡ vec_items c.args.out.now ++ refusal_line c.in-Err.why).
    ap (λ (o : List ℕ). left (running c.args.self.now) o) (w ∙ ap (λ (r : Refusal). vec_items c.args.out.now ++ refusal_line r) why))
    c.append_refusal-in-Err.ensures)
