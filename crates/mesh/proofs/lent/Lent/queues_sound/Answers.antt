use Rattle.std.proofs.Common.{◌≡◌, sym, ap, ◌∙◌, [], ◌∷◌, length, length-append, take, arith}
use Rattle.std.proofs.lemmas.List.{length-take-le}
use Rattle.std.proofs.lemmas.Slice.Zip.{zip_turn, zip_end}
use Rattle.machine.specs.Tables.{all_below}
use Rattle.mesh.specs.Heads.{no_queue, queue_count}
use Rattle.mesh.specs.Scan.{sound_queue, sound}
use Rattle.mesh.proofs.Counts.{queues_counted}
use Rattle.mesh.proofs.Scan.{below_none, below_more, below_stop, ring_turn, rings_in}
use Rattle.mesh.proofs.lent.Lent.queues_sound.Goals as goal

pub slice_bounds-needed-end : goal.slice_bounds-needed-end
slice_bounds-needed-end g c =
    let n = queues_counted c.args.self.now.plan.now _ c.queues_needed.ensures in
    let h = c.requires.queues_in in
    sym (length-take-le c.queues_needed.result c.args.self.now.queues.now (omega arith))

pub loop-x-init : goal.loop-x-init
loop-x-init g c = below_none _

pub loop-x-preserved : goal.loop-x-preserved
loop-x-preserved g c =
    let plan = c.args.self.now.plan.now in
    let places = c.args.self.now.places.now in
    let n = c.queues_needed.result in
    let q = length c.loop-x.yielded in
    let f = sound_queue plan c.args.self.now.cycle c.args.self.now.queues.now places in
    let here = zip_turn (take n c.args.self.now.queues.now) c.as_chunks.result.0.now c.loop-x.yielded c.into_iter-x-iterator.result c.loop-x.x-iterator c.next.new.self _
    (cc) (cc) c.loop-x.yielded_by _ c.in-Some.is c.next.ensures.steps in
    let is = ring_turn plan c.args.self.now.cycle c.args.self.now.queues.now places g.row.B n c.requires.deep
    (queues_counted plan n c.queues_needed.ensures) c.requires.long q c.in-Some.x.now c.in-Some.ring.now _ c.requires.queues_in
    c.as_chunks.ensures.front here.0 (here.2 no_queue) (here.3 []) in
    ap (all_below f) (length-append c.loop-x.yielded ((c.in-Some.x, c.in-Some.ring) ∷ []))
    ∙ below_more f q c.loop-x.invariant (sym is.1 ∙ sym c.queue_sound.ensures ∙ c.if-not-queue_sound.false)

pub returns-then-not-queue_sound : goal.returns-then-not-queue_sound
unfolding sound
returns-then-not-queue_sound g c =
    let plan = c.args.self.now.plan.now in
    let places = c.args.self.now.places.now in
    let n = c.queues_needed.result in
    let q = length c.loop-x.yielded in
    let f = sound_queue plan c.args.self.now.cycle c.args.self.now.queues.now places in
    let here = zip_turn (take n c.args.self.now.queues.now) c.as_chunks.result.0.now c.loop-x.yielded c.into_iter-x-iterator.result c.loop-x.x-iterator c.next.new.self _
    (cc) (cc) c.loop-x.yielded_by _ c.in-Some.is c.next.ensures.steps in
    let is = ring_turn plan c.args.self.now.cycle c.args.self.now.queues.now places g.row.B n c.requires.deep
    (queues_counted plan n c.queues_needed.ensures) c.requires.long q c.in-Some.x.now c.in-Some.ring.now _ c.requires.queues_in
    c.as_chunks.ensures.front here.0 (here.2 no_queue) (here.3 []) in
    sym (below_stop f (queue_count plan) q is.0 (sym is.1 ∙ sym c.queue_sound.ensures ∙ c.if-not-queue_sound.true))

pub returns : goal.returns
unfolding sound
returns g c =
    let plan = c.args.self.now.plan.now in
    let n = c.queues_needed.result in
    let all = zip_end (take n c.args.self.now.queues.now) c.as_chunks.result.0.now c.loop-x.yielded c.into_iter-x-iterator.result c.loop-x.x-iterator c.next.new.self _
    (cc) (cc) c.loop-x.yielded_by c.in-None.is c.next.ensures.steps in
    let few = queues_counted plan n c.queues_needed.ensures in
    let h = c.requires.queues_in in
    let rings = rings_in plan c.args.self.now.cycle c.args.self.now.queues.now c.args.self.now.places.now g.row.B n c.requires.deep few c.requires.long in
    let e : length c.loop-x.yielded ≡ queue_count plan =
    omega (arith, length-take-le n c.args.self.now.queues.now (omega arith), c.as_chunks.ensures.front_len) in
    sym (ap (all_below (sound_queue plan c.args.self.now.cycle c.args.self.now.queues.now c.args.self.now.places.now)) (sym e) ∙ c.loop-x.invariant)
