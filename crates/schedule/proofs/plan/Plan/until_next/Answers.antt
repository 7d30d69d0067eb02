use Rattle.std.proofs.Common.{◌+◌, length, ap, ◌∙◌, arith}
use Rattle.std.specs.Option.{unwrap_or}
use Rattle.schedule.specs.Turns.{until_next}
use Rattle.schedule.proofs.Ring.{until_passed}
use Rattle.schedule.proofs.plan.Plan.until_next.Goals as goal

pub returns : goal.returns
returns c =
    let domain = c.args.domain in
    let k = c.args.k in
    let turns = c.turns-turns.result.now in
    ap (λ n. n + 1) (c.unwrap_or.ensures ∙ ap (λ o. unwrap_or o (length turns)) c.passed_over.ensures.is)
    ∙ (until_passed turns domain k (omega arith) ∙ ap (λ slots. until_next slots domain k) c.turns-turns.ensures.is)
