use Rattle.std.proofs.Common.{◌≡◌, ◌+◌, ◌*◌, false, set, sym, refl, ap, ◌∙◌, le_trans, arith, is_some, Option}
use Rattle.std.proofs.lemmas.List.{length-set}
use Rattle.machine.specs.declared.tables.Place.{Place}
use Rattle.mesh.specs.Heads.{queue_count, ports}
use Rattle.machine.specs.Moves.{edit}
use Rattle.mesh.specs.declared.moves.Move.{Move}
use Rattle.mesh.proofs.Cut.{none_from, past_of}
use Rattle.mesh.specs.Ports.{move_at, passes_at}
use Rattle.mesh.specs.After.{word_after, queue_after, place_after, payload_after}
use Rattle.mesh.specs.Orderly.{source}
use Rattle.mesh.proofs.Index.{queue_in, side_queue_in}
use Rattle.mesh.proofs.Edited.{edit_nothing, edit_like}
use Rattle.mesh.proofs.Scatter.{word_part, queue_part, place_part, payload_part, word_none, queue_none, place_none, payload_none}
use Rattle.mesh.proofs.Scatter.{word_all, queue_all, place_all, payload_all}
use Rattle.mesh.proofs.Scatter.{words_put, words_keep, places_put, places_keep, places_out, payloads_put, payloads_keep}
use Rattle.mesh.proofs.Scatter.{payloads_out, queues_from, queues_keep, queues_leave, queues_out, queues_few, queues_low}
use Rattle.mesh.proofs.Scatter.{made, passes_to, queues_end, queues_join}
use Rattle.mesh.proofs.apply.make_moves.Goals as goal

pub loop-k-init : goal.loop-k-init
loop-k-init g c =
    let plan = c.args.plan.now in
    let queues = c.args.queues.now in
    let ms = c.args.moves.now in
    let n = queue_count plan in (
      edit_nothing n (word_part plan ms 0) c.args.words.now (λ q x _. word_none plan queues ms q x),
      edit_nothing n (queue_part plan ms 0 0) queues (λ q x _. queue_none plan queues ms q x),
      edit_nothing (n * plan.sizes.depth) (place_part plan c.args.cycle queues ms 0) c.args.places.now
          (λ s x _. place_none plan queues ms c.args.cycle s x),
      edit_nothing (n * plan.sizes.depth) (payload_part plan queues ms c.args.payloads.now 0) c.args.payloads.now
          (λ s x _. payload_none plan queues ms c.args.payloads.now s x),
    )

pub loop-k-preserved-in_default : goal.loop-k-preserved-in_default
loop-k-preserved-in_default g c =
    let plan = c.args.plan.now in
    let queues = c.args.queues.now in
    let ms = c.args.moves.now in
    let k = c.loop-k.k in
    let o = c.requires.orderly in
    let low = rw c.requires.moves_in at c.loop-k-test.true in
    let off : passes_at ms k ≡ false = ap (λ (o : Option Move). is_some o) (none_from _ c.in_default.not-Some) in
    let is = c.loop-k.invariant in (
      words_keep plan queues ms o k low c.args.words.now c.loop-k.words is.0 off,
      queues_keep plan queues ms o k low c.requires.fit.queues_in c.loop-k.queues is.1 off,
      places_keep plan queues ms o k low c.args.cycle c.args.places.now c.loop-k.places is.2 off,
      payloads_keep plan queues ms o k low c.args.payloads.now c.loop-k.payloads is.3 off,
    )

pub left-requires : goal.left-requires
left-requires g c =
    let go = made c.args.moves.now c.loop-k.k c.in-Some.m c.in-Some.is in
    let mv = go.1 in
    let plan = c.args.plan.now in
    let m = move_at c.args.moves.now c.loop-k.k in
    let o = c.requires.orderly in
    let yes = go.0 in
    let e = queues_from plan c.args.queues.now c.args.moves.now o c.loop-k.k
    (rw c.requires.moves_in at c.loop-k-test.true)
    c.requires.fit.queues_in c.loop-k.queues c.loop-k.invariant.1 yes in
    let count = e.1 in
    let h = o.some c.loop-k.k yes in
    let q = side_queue_in plan c.loop-k.k m.winner m.owner
    (rw c.requires.moves_in at c.loop-k-test.true)
    (o.wins c.loop-k.k) (o.owns c.loop-k.k) in
    rw mv (record { some = omega arith; low = rw e.0 (c.requires.fit.firsts (source plan c.args.moves.now c.loop-k.k) q) })

pub loop-k-preserved-in_default-across : goal.loop-k-preserved-in_default-across
loop-k-preserved-in_default-across g c =
    let go = made c.args.moves.now c.loop-k.k c.in-Some.m c.in-Some.is in
    let mv = go.1 in
    let plan = c.args.plan.now in
    let queues = c.args.queues.now in
    let ms = c.args.moves.now in
    let k = c.loop-k.k in
    let o = c.requires.orderly in
    let low = rw c.requires.moves_in at c.loop-k-test.true in
    let yes = go.0 in
    let is = c.loop-k.invariant in
    let none = sym c.in_default-across.ensures.is in
    let gone = queues_leave plan queues ms o k low c.requires.fit.queues_in c.loop-k.queues is.1 yes c.left.result
    (rw mv at c.left.ensures.first) (rw mv at c.left.ensures.count) in
    rw mv (
      words_put plan queues ms o k low c.args.words.now c.loop-k.words is.0 c.requires.words_in yes,
      queues_out plan queues ms o k low c.requires.fit.queues_in (set c.loop-k.queues (source plan ms k) c.left.result) gone none,
      places_out plan queues ms o k low c.args.cycle c.args.places.now c.loop-k.places is.2 none,
      payloads_out plan queues ms o k low c.args.payloads.now c.loop-k.payloads is.3 none,
    )

pub end_place-at-requires : goal.end_place-at-requires
end_place-at-requires g c =
    let go = made c.args.moves.now c.loop-k.k c.in-Some.m c.in-Some.is in
    let mv = go.1 in
    let plan = c.args.plan.now in
    let queues = c.args.queues.now in
    let ms = c.args.moves.now in
    let k = c.loop-k.k in
    let o = c.requires.orderly in
    let low = rw c.requires.moves_in at c.loop-k-test.true in
    let yes = go.0 in
    let cur = set c.loop-k.queues (source plan ms k) c.left.result in
    let gone = queues_leave plan queues ms o k low c.requires.fit.queues_in c.loop-k.queues c.loop-k.invariant.1 yes c.left.result
    (rw mv at c.left.ensures.first) (rw mv at c.left.ensures.count) in
    let j = c.in-Some-across.j in
    let some = sym c.in-Some-across.ensures.is in
    let inside = c.in-Some-across.ensures.inside in
    let h = queue_in plan j (move_at ms k).owner inside (o.owns k) in
    let few = queues_few plan queues ms o k low c.requires.fit.queues_in cur gone j some inside in
    let n = c.requires.fit.counts (j * plan.sizes.domains + (move_at ms k).owner) h in
    rw mv (record {
      inside = h;
      queues_in = simp length-set (omega arith);
      low = queues_low plan queues ms o k low c.requires.fit.queues_in cur gone j some inside
          (c.requires.fit.firsts (j * plan.sizes.domains + (move_at ms k).owner) h);
      few = le_trans few n;
    })

pub slice_copy_out-joined : goal.slice_copy_out-joined
slice_copy_out-joined g c =
    let h = passes_to c.args.plan.now c.args.queues.now c.args.moves.now c.requires.orderly c.loop-k.k c.in-Some.m c.in-Some.is c.in-Some-across.j c.in-Some-across.ensures.inside in
    simp length-set (omega arith)

pub bounds-queues-to : goal.bounds-queues-to
bounds-queues-to g c =
    let h = passes_to c.args.plan.now c.args.queues.now c.args.moves.now c.requires.orderly c.loop-k.k c.in-Some.m c.in-Some.is c.in-Some-across.j c.in-Some-across.ensures.inside in
    simp length-set (omega arith)

pub joined-requires : goal.joined-requires
joined-requires g c =
    let go = made c.args.moves.now c.loop-k.k c.in-Some.m c.in-Some.is in
    let mv = go.1 in
    let plan = c.args.plan.now in
    let queues = c.args.queues.now in
    let ms = c.args.moves.now in
    let k = c.loop-k.k in
    let o = c.requires.orderly in
    let low = rw c.requires.moves_in at c.loop-k-test.true in
    let yes = go.0 in
    let gone = queues_leave plan queues ms o k low c.requires.fit.queues_in c.loop-k.queues c.loop-k.invariant.1 yes c.left.result
    (rw mv at c.left.ensures.first) (rw mv at c.left.ensures.count) in
    let j = c.in-Some-across.j in
    let some = sym c.in-Some-across.ensures.is in
    let inside = c.in-Some-across.ensures.inside in
    let few = queues_few plan queues ms o k low c.requires.fit.queues_in
    (set c.loop-k.queues (source plan ms k) c.left.result) gone j some inside in
    let h = queue_in plan j (move_at ms k).owner inside (o.owns k) in
    let n = c.requires.fit.counts (j * plan.sizes.domains + (move_at ms k).owner) h in
    rw mv (omega arith)

pub loop-k-preserved : goal.loop-k-preserved
loop-k-preserved g c =
    let go = made c.args.moves.now c.loop-k.k c.in-Some.m c.in-Some.is in
    let mv = go.1 in
    let plan = c.args.plan.now in
    let queues = c.args.queues.now in
    let ms = c.args.moves.now in
    let k = c.loop-k.k in
    let o = c.requires.orderly in
    let low = rw c.requires.moves_in at c.loop-k-test.true in
    let yes = go.0 in
    let is = c.loop-k.invariant in
    let long = c.requires.fit.queues_in in
    let cur = set c.loop-k.queues (source plan ms k) c.left.result in
    let gone = queues_leave plan queues ms o k low long c.loop-k.queues is.1 yes c.left.result (rw mv at c.left.ensures.first)
    (rw mv at c.left.ensures.count) in
    let j = c.in-Some-across.j in
    let some = sym c.in-Some-across.ensures.is in
    let inside = c.in-Some-across.ensures.inside in
    let at = (rw mv at c.end_place-at.ensures.is) ∙ queues_end plan queues ms o k low long cur gone j some inside in
    let packet : Place =
    record { destination = (move_at ms k).destination; source = (move_at ms k).source; ready = c.args.cycle + plan.sizes.hop } in
    let put_place = places_put plan queues ms o k low c.args.cycle c.args.places.now c.loop-k.places is.2
    c.requires.fit.places_in yes j some inside packet refl in
    let put_payload = payloads_put plan queues ms o k low c.args.payloads.now c.loop-k.payloads is.3
    c.requires.payloads_in yes j some inside c.index-payloads-m.result (rw mv at c.index-payloads-m.is) in
    rw mv (
      words_put plan queues ms o k low c.args.words.now c.loop-k.words is.0 c.requires.words_in yes,
      queues_join plan queues ms o k low long cur gone yes j some inside c.joined.result (rw mv at c.joined.ensures.first)
          (rw mv at c.joined.ensures.count),
      ap (λ s. set c.loop-k.places s packet) at ∙ put_place,
      ap (λ s. set c.loop-k.payloads s c.index-payloads-m.result) at ∙ put_payload,
    )

pub returns : goal.returns
returns g c =
    let plan = c.args.plan.now in
    let queues = c.args.queues.now in
    let ms = c.args.moves.now in
    let n = queue_count plan in
    let past = past_of plan ms c.requires.moves_in in
    let e : c.loop-k.k ≡ ports plan = omega arith in
    let is = c.loop-k.invariant in
    record {
      queued = is.1 ∙ ap (λ i. edit 0 n (queue_part plan ms i i) queues) e
          ∙ edit_like n (queue_part plan ms (ports plan) (ports plan)) (queue_after plan ms) queues
          (λ q x _. queue_all plan queues ms past q x);
      placed = is.2 ∙ ap (λ i. edit 0 (n * plan.sizes.depth) (place_part plan c.args.cycle queues ms i) c.args.places.now) e
          ∙ edit_like (n * plan.sizes.depth) (place_part plan c.args.cycle queues ms (ports plan))
          (place_after plan c.args.cycle queues ms) c.args.places.now
          (λ s x _. place_all plan queues ms past c.args.cycle s x);
      loaded = is.3 ∙ ap (λ i. edit 0 (n * plan.sizes.depth) (payload_part plan queues ms c.args.payloads.now i)
          c.args.payloads.now) e
          ∙ edit_like (n * plan.sizes.depth) (payload_part plan queues ms c.args.payloads.now (ports plan))
          (payload_after plan queues ms c.args.payloads.now) c.args.payloads.now
          (λ s x _. payload_all plan queues ms past c.args.payloads.now s x);
      worded = is.0 ∙ ap (λ i. edit 0 n (word_part plan ms i) c.args.words.now) e
          ∙ edit_like n (word_part plan ms (ports plan)) (word_after plan ms) c.args.words.now
          (λ q x _. word_all plan queues ms past q x);
    }
