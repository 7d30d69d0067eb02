use Rattle.std.proofs.Common.{◌≤◌, length, vec_items, ◌∙◌, rules}
use Rattle.std.proofs.lemmas.List.{take_rest}
use Rattle.frames.proofs.Spelling.{a_pair}
use Rattle.frames.proofs.hex.from_hex.Goals as goal

pub loop-rest-preserved : goal.loop-rest-preserved
loop-rest-preserved c =
    let rest = c.loop-rest.rest.now in
    let long : 2 ≤ length rest = search rules in
    c.loop-rest.invariant
    ∙ a_pair rest (vec_items c.loop-rest.bytes) (vec_items c.push.new.self) _ c.in-Some.byte long
    c.in-Some.ensures c.in_ok-push.ensures.items (take_rest rest 2)
