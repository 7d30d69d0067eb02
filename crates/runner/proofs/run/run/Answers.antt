use Rattle.std.proofs.Common.{◌≡◌, Bool, false, cond, ltb, length, vec_items, sym, ap, ◌∙◌, arith}
use Rattle.std.proofs.lemmas.Bool.Decides.{nat_tests}
use Rattle.schedule.specs.declared.refusal.Refusal.TheVariants.{NotAFrame}
use Rattle.frames.specs.Lines.{all_lines, line_value, lines_left}
use Rattle.runner.specs.Printed.{printed, printed_from}
use Rattle.runner.specs.Running.{at_first, running}
use Rattle.runner.specs.Steps.{refusal_line}
use Rattle.runner.proofs.Lines.{line_done, lines_done}
use Rattle.runner.proofs.run.run.Goals as goal

pub loop-line-preserved : goal.loop-line-preserved
loop-line-preserved c =
    line_done (vec_items c.loop-line.out) _ (running c.loop-line.mesh) (lines_left c.loop-line.line-iterator)
    (vec_items c.line.new.out) (line_value c.in-Some.line) (lines_left c.next.new.self) (running c.line.new.self)
    c.in-Some.ensures.steps c.in_ok-line.ensures c.loop-line.invariant

pub returns : goal.returns
unfolding printed
returns c =
    let short : ltb 32768 (length c.args.input.now) ≡ false = grind (arith, nat_tests) in
    lines_done (vec_items c.loop-line.out) _ (running c.loop-line.mesh) (lines_left c.loop-line.line-iterator)
    c.in-None.ensures.steps.0 c.loop-line.invariant
    ∙ ap (λ (b : Bool). cond b (refusal_line NotAFrame) (printed_from at_first (all_lines c.args.input.now))) (sym short)
