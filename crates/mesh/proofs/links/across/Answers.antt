use Rattle.std.proofs.Common.{◌≡◌, ◌%◌, of_calls, rules}
use Rattle.std.proofs.lemmas.Bool.{lt-ltb}
use Rattle.mesh.specs.Ports.{across}
use Rattle.mesh.proofs.Across.{across_by, across_inside}
use Rattle.mesh.proofs.Index.{router_in}
use Rattle.mesh.proofs.links.across.Goals as goal

pub returns : goal.returns
unfolding across
returns c =
    let plan = c.args.plan.now in
    let inside = lt-ltb _ _ (router_in plan c.args.k c.requires) in
    let e = rw inside at c.neighbour.ensures in
    let is : c.map.result ≡ across plan c.args.k =
    rw (← e) (across_by (c.args.k % 5) c.neighbour.result c.map.result
    (λ n. let m = rw n at c.map.ensures in search rules)
    (λ n s. let m = rw s at c.map.ensures in search (rules, of_calls))) in
    record { is = is; inside = across_inside plan c.args.k c.requires _ is }
