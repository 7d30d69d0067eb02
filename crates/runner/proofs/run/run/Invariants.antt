-- What is printed, and what the lines to come print, is what the whole input prints.
use Rattle.std.proofs.Common.{◌≡◌, ◌++◌, vec_items}
use Rattle.frames.specs.Lines.{all_lines, lines_left}
use Rattle.runner.specs.Printed.{printed_from}
use Rattle.runner.specs.Running.{at_first, running}
use Rattle.runner.proofs.run.run.Given as goal

abbrev pub invariant-loop-line : goal.invariant-loop-line
invariant-loop-line l =
    vec_items l.out ++ printed_from (running l.mesh) (lines_left l.line-iterator) ≡ printed_from at_first (all_lines l.input)
