use Rattle.std.proofs.Common.{◌%◌, ◌<◌, of_calls, refl, rules}
use Rattle.std.proofs.lemmas.Bool.{ne_eqb}
use Rattle.mesh.proofs.Across.{room_by}
use Rattle.mesh.specs.Heads.{ports}
use Rattle.mesh.specs.Ports.{room}
use Rattle.mesh.proofs.Index.{queue_in, queue_count_le}
use Rattle.std.proofs.iter.Serving.{serving}
use Rattle.mesh.proofs.outset.Outset.has_room.Goals as goal

pub returns-then-k-eq4 : goal.returns-then-k-eq4
unfolding room
returns-then-k-eq4 g c = rw c.if-k-eq4.true refl

pub is_some_and-requires : goal.is_some_and-requires
is_some_and-requires g c = λ x e.
    let plan = c.args.self.now.plan.now in
    let inside : x < ports plan = (rw e at c.across.ensures.inside) in
    let q = queue_in plan x c.args.domain inside c.requires.domain_in in
    let n = queue_count_le plan in
    let l = c.args.self.now.fit.queues_in in
    grind serving

pub returns-else-k-eq4 : goal.returns-else-k-eq4
unfolding room
returns-else-k-eq4 g c =
    let s = c.args.self.now in
    rw (ne_eqb (c.args.k % 5) 4 c.if-k-eq4.false, ← c.across.ensures.is)
    (room_by s.plan.now s.queues.now c.args.domain c.across.result c.is_some_and.result
    (λ n. let m = rw n at c.is_some_and.ensures in search rules)
    (λ j e. let m = rw e at c.is_some_and.ensures in search (rules, of_calls)))
