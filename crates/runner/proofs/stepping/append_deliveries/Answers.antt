use Rattle.std.proofs.Common.{◌≡◌, ℕ, ◌-◌, List, ◌++◌, vec_items, sym, refl, ap, ◌∙◌, arith}
use Rattle.std.proofs.lemmas.Iterator.{YieldsList-from_range, YieldsList-from_slice, YieldsList-from_zip}
use Rattle.std.proofs.lemmas.Iterator.Consumers.{YieldsList-at, YieldsList-end}
use Rattle.std.proofs.lemmas.List.Folds.{flat_map-map}
use Rattle.std.specs.List.{flat_map}
use Rattle.runner.proofs.Lines.{entry_line, entry_lines}
use Rattle.runner.proofs.stepping.append_deliveries.Goals as goal

pub returns : goal.returns
returns g c =
    let line = entry_line g.P.Payload.form c.args.cycle in
    let ds = c.args.deliveries.now in
    let ps = c.args.delivered.now in
    let long : c.args.routers - 0 ≡ c.args.routers = omega arith in
    let range = YieldsList-at c.zip-router-items.ensures.first (YieldsList-from_range 0 c.args.routers c.args.routers refl long) in
    let told = YieldsList-at c.zip.ensures.first (YieldsList-from_slice ds c.iter.ensures.rest) in
    let pairs = YieldsList-at c.zip-router-items.ensures.second (YieldsList-from_zip told (YieldsList-from_slice ps (cc))) in
    let entries = YieldsList-at c.into_iter-router-iterator.ensures.into_iter_gives (YieldsList-from_zip range pairs) in
    let all = YieldsList-end entries c.loop-router.yielded c.loop-router.router-iterator c.loop-router.yielded_by c.next.result c.next.new.self c.in-None.is c.next.ensures.steps in
    c.loop-router.invariant
    ∙ ap (λ (l : List ℕ). vec_items c.args.out.now ++ l)
    (sym (flat_map-map line _ c.loop-router.yielded) ∙ ap (flat_map line) all.0 ∙ entry_lines g.P.Payload.form c.args.cycle 0 c.args.routers ds ps)
