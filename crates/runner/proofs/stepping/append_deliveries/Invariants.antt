-- What is written is what was written before and the lines of the entries so far.
use Rattle.std.proofs.Common.{◌≡◌, ◌++◌, vec_items}
use Rattle.std.specs.List.{flat_map}
use Rattle.runner.proofs.Lines.{entry_line}
use Rattle.runner.proofs.stepping.append_deliveries.Given as goal

abbrev pub invariant-loop-router : goal.invariant-loop-router
invariant-loop-router g l =
    vec_items l.out
    ≡ vec_items l.initial.out
    ++ flat_map (λ e. entry_line g.P.Payload.form l.cycle (e.0, (e.1.0.now, e.1.1.now))) l.yielded
