use Rattle.std.proofs.Common.{◌≡◌, ◌+◌, ◌*◌, ◌<◌, length, get_or, set, replicate, ap, ◌∙◌, arith, None, Option}
use Rattle.std.proofs.lemmas.List.{length-replicate}
use Rattle.machine.specs.Moves.{edit}
use Rattle.mesh.specs.Asked.{no_port}
use Rattle.mesh.specs.Heads.{asker}
use Rattle.mesh.specs.Shared.{outset_of}
use Rattle.mesh.specs.declared.moves.Move.{Move}
use Rattle.mesh.specs.Ports.{chosen, owner}
use Rattle.mesh.proofs.Chosen.{settled}
use Rattle.mesh.proofs.Edited.{edit_put}
use Rattle.mesh.proofs.Index.{ports_le, port_in}
use Rattle.mesh.proofs.Masks.{mask_lt}
use Rattle.mesh.proofs.Owners.{owner_below}
use Rattle.mesh.proofs.outset.Outset.choose_router.Goals as goal

pub choose_port-requires-clause-domain_in : goal.choose_port-requires-clause-domain_in
choose_port-requires-clause-domain_in g c =
    rw (c.asking.ensures c.loop-p.p c.loop-p-test.true) (owner_below c.args.self.now.plan.now c.args.self.now.cycle _)

pub choose_port-requires-clause-few : goal.choose_port-requires-clause-few
choose_port-requires-clause-few g c =
    let s = c.args.self.now in
    let p = c.loop-p.p in
    rw (c.asking.ensures p c.loop-p-test.true)
    (mask_lt (asker (outset_of g.R.RouteRule.meaning s) c.args.router p (owner s.plan.now s.cycle (c.args.router * 5 + p))) 5)

pub loop-p-preserved : goal.loop-p-preserved
unfolding chosen
loop-p-preserved g c =
    let s = c.args.self.now in
    let v = outset_of g.R.RouteRule.meaning s in
    let choose = g.A.Arbiter.meaning s.arbiter.now in
    let f = chosen v choose s.words.now in
    let p = c.loop-p.p in
    let h = c.loop-p-test.true in
    let k = c.args.router * 5 + p in
    let low = port_in s.plan.now c.args.router p c.requires.router_in h in
    let n = ports_le s.plan.now in
    let l : k < length {A = Option Move} (replicate 320 None) = rw (length-replicate {A = Option Move} 320 None) (omega arith) in
    let next : k + 1 ≡ c.args.router * 5 + (p + 1) = omega arith in
    ap (λ xs. set xs k c.choose_port.result) c.loop-p.invariant
    ∙ edit_put f (replicate 320 None) k c.choose_port.result None l
    (c.choose_port.ensures
    ∙ settled v choose s.words.now c.args.router p (get_or c.asking.result p no_port) h (c.asking.ensures p h))
    ∙ ap (λ i. edit 0 i f (replicate 320 None)) next
