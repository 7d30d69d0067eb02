use Rattle.std.proofs.Common.{◌+◌, eqb, drop, take, ap, ◌∙◌, rules, tests, arith, length, ◌-◌, length-drop}
use Rattle.std.proofs.lemmas.List.{take_all}
use Rattle.std.specs.Slice.Iter.{iter_rest}
use Rattle.std.proofs.lemmas.Iterator.{YieldsList-from_slice}
use Rattle.std.proofs.lemmas.Iterator.Consumers.{YieldsList-from_chain}
use Rattle.std.proofs.lemmas.Iterator.Search.{position_from_yields_List}
use Rattle.schedule.proofs.queries.passed_over.Goals as goal

pub returns-clause-is : goal.returns-clause-is
returns-clause-is c =
    position_from_yields_List (λ named. eqb named c.args.domain) _ _ _ c.position.ensures.ran
    (YieldsList-from_chain
    (YieldsList-from_slice (drop (c.args.k + 1) c.args.turns.now) (ap iter_rest c.chain.ensures.first ∙ (c.iter.ensures.rest
    ∙ take_all (length c.args.turns.now - (c.args.k + 1)) (drop (c.args.k + 1) c.args.turns.now) (omega (arith, length-drop (c.args.k + 1) c.args.turns.now)))))
    (YieldsList-from_slice {s = c.chain.result.b} (take (c.args.k + 1) c.args.turns.now) c.chain.ensures.second.0) c.chain.ensures.first_done c.chain.ensures.second_done)
    (λ x b q k. search (rules, tests))
