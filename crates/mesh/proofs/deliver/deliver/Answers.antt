use Rattle.std.proofs.Common.{◌≡◌, ◌+◌, ◌*◌, ◌<◌, length, get_or, sym, ◌∙◌, arith}
use Rattle.machine.specs.declared.tables.Delivery.{Delivery}
use Rattle.mesh.specs.After.{delivery_after, delivered_after}
use Rattle.mesh.proofs.Edited.{edit_none, edit_step, edit_keep}
use Rattle.mesh.proofs.Cut.{none_from}
use Rattle.mesh.proofs.Delivered.{none, local, no_mark, marks, keeps, hands}
use Rattle.mesh.proofs.deliver.deliver.Goals as goal

pub loop-router-init : goal.loop-router-init
loop-router-init g c = (sym (edit_none _ _), sym (edit_none _ _))

pub loop-router-preserved-in_default : goal.loop-router-preserved-in_default
loop-router-preserved-in_default g c =
    let ms = c.args.moves.now in
    let r = c.loop-router.router in
    let low = rw c.as_chunks.ensures.front_len at c.loop-router-test.true in
    let at = sym (local ms c.as_chunks.result.0.now r c.as_chunks.ensures.front low) ∙ none_from _ c.in_default.not-Some in
    let z : c.default.result ≡ none = λ i. record { mark = c.default.ensures.0 i; domain = c.default.ensures.1.0 i; source = c.default.ensures.1.1 i } in (
      edit_step (delivery_after ms) c.args.deliveries.now c.loop-router.deliveries r c.default.result none (omega arith)
          c.loop-router.invariant.0 (z ∙ no_mark ms r at (get_or c.loop-router.deliveries r none)),
      c.loop-router.invariant.1
          ∙ edit_keep (delivered_after ms c.args.payloads.now) c.args.delivered.now r
          (λ d. keeps ms r at c.args.payloads.now (get_or c.args.delivered.now r d)),
    )

pub offset_bounds-payloads-m : goal.offset_bounds-payloads-m
offset_bounds-payloads-m g c =
    let ms = c.args.moves.now in
    let r = c.loop-router.router in
    let low = rw c.as_chunks.ensures.front_len at c.loop-router-test.true in
    let at = sym (local ms c.as_chunks.result.0.now r c.as_chunks.ensures.front low) ∙ c.in-Some.is in
    let h : c.in-Some.m.from < length c.args.payloads.now = rw at at (c.requires.froms (r * 5 + 4)) in
    omega arith

pub bounds-payloads-m : goal.bounds-payloads-m
bounds-payloads-m g c =
    let ms = c.args.moves.now in
    let r = c.loop-router.router in
    let low = rw c.as_chunks.ensures.front_len at c.loop-router-test.true in
    let at = sym (local ms c.as_chunks.result.0.now r c.as_chunks.ensures.front low) ∙ c.in-Some.is in
    rw at at (c.requires.froms (r * 5 + 4))

pub loop-router-preserved : goal.loop-router-preserved
loop-router-preserved g c =
    let ms = c.args.moves.now in
    let r = c.loop-router.router in
    let low = rw c.as_chunks.ensures.front_len at c.loop-router-test.true in
    let at = sym (local ms c.as_chunks.result.0.now r c.as_chunks.ensures.front low) ∙ c.in-Some.is in
    let m = c.in-Some.m in
    let v = c.index-payloads-m.result in
    let h : m.from < length c.args.payloads.now = rw at at (c.requires.froms (r * 5 + 4)) in
    let record_of : Delivery = record { mark = 1; domain = m.owner; source = m.source } in (
      edit_step (delivery_after ms) c.args.deliveries.now c.loop-router.deliveries r record_of none (omega arith)
          c.loop-router.invariant.0 (marks ms r m at (get_or c.loop-router.deliveries r none)),
      edit_step (delivered_after ms c.args.payloads.now) c.args.delivered.now c.loop-router.delivered r v v (omega arith)
          c.loop-router.invariant.1
          (hands ms r m at c.args.payloads.now v (get_or c.loop-router.delivered r v) h c.index-payloads-m.is),
    )
