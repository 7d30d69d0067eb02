use Rattle.std.proofs.Common.{rules, ◌≡◌, ◌≤◌, ◌^◌, eqb, length, arith}
use Rattle.std.proofs.lemmas.Iterator.{YieldsList-from_slice}
use Rattle.std.proofs.lemmas.Iterator.Adapters.{fits_from_length, at_most_from_yields_List}
use Rattle.std.proofs.lemmas.List.Sums.{count_by-le-length}
use Rattle.schedule.specs.Timetable.{share}
use Rattle.schedule.proofs.check.share.Goals as goal

pub sum-requires-clause-fits : goal.sum-requires-clause-fits
sum-requires-clause-fits c =
    let few : length c.args.slots.now ≤ 2 ^ 63 = search rules in
    fits_from_length _ _ (2 ^ 63) _ (at_most_from_yields_List (YieldsList-from_slice c.args.slots.now cc) few) c.map.ensures.closure (omega arith) (λ x r q k. search rules)

pub returns-clause-few : goal.returns-clause-few
returns-clause-few c =
    let e : c.sum.result ≡ share c.args.slots.now c.args.domain = search rules in
    let n = count_by-le-length (λ named. eqb named c.args.domain) c.args.slots.now in
    omega arith
