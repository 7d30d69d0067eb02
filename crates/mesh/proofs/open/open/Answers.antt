use Rattle.std.proofs.lemmas.List.{length-take-le}
use Rattle.machine.specs.declared.tables.Queue.{Queue}
use Rattle.std.proofs.Common.{rules, ◌≡◌, length, replicate, take, [], sym, ap, ◌∙◌}
use Rattle.schedule.specs.declared.refusal.Refusal.TheVariants.{TableTooShort}
use Rattle.machine.specs.Calls.{lengths, opened, opening_refusal, outcome_of}
use Rattle.machine.specs.Machine.{machine}
use Rattle.machine.specs.Moves.{edit}
use Rattle.machine.specs.Tables.{no_packets, tables}
use Rattle.mesh.specs.Answers.{without_number}
use Rattle.mesh.proofs.Answered.{opens, unopened}
use Rattle.mesh.proofs.Counts.{queues_counted}
use Rattle.mesh.proofs.Edited.{edit_filled}
use Rattle.mesh.proofs.Fitting.{long_checked}
use Rattle.mesh.proofs.Refused.{check_stops, check_passes, handed_on}
use Rattle.mesh.proofs.open.open.Goals as goal

pub returns-in_err-check : goal.returns-in_err-check
unfolding lengths opening_refusal
returns-in_err-check g c = λ choose route.
    let a = c.args in
    let t = tables {P = g.row.P.Denot} a.cycle.now a.queues.now a.places.now a.payloads.now a.words.now in
    ap (λ r. outcome_of (without_number r) t [] [])
    (handed_on c.from_residual.result c.in_err-check.field-0.0 c.from_residual.ensures.1)
    ∙ unopened (machine c.args.plan.now choose route) t c.in_err-check.field-0.0
    (check_stops _ _ (c.tables_long_enough-long.ensures choose route) TableTooShort [] _ c.in_err-check.ensures)

pub slice_bounds-fill-end : goal.slice_bounds-fill-end
slice_bounds-fill-end g c =
    let l = long_checked c.args.plan.now _ _ c.tables_long_enough-long.ensures c.in_ok-check.ensures in
    let n = queues_counted c.args.plan.now _ c.queues_needed-n.ensures in
    rw n l.queues_in

pub slice_bounds-fill-end-2 : goal.slice_bounds-fill-end-2
slice_bounds-fill-end-2 g c =
    let l = long_checked c.args.plan.now _ _ c.tables_long_enough-long.ensures c.in_ok-check.ensures in
    let n = queues_counted c.args.plan.now _ c.queues_needed-n.ensures in
    sym (length-take-le _ _ (rw n l.queues_in))

pub slice_bounds-fill-end-3 : goal.slice_bounds-fill-end-3
slice_bounds-fill-end-3 g c =
    let l = long_checked c.args.plan.now _ _ c.tables_long_enough-long.ensures c.in_ok-check.ensures in
    let n = queues_counted c.args.plan.now _ c.queues_needed-n.ensures in
    rw n l.words_in

pub slice_bounds-fill-end-4 : goal.slice_bounds-fill-end-4
slice_bounds-fill-end-4 g c =
    let l = long_checked c.args.plan.now _ _ c.tables_long_enough-long.ensures c.in_ok-check.ensures in
    let n = queues_counted c.args.plan.now _ c.queues_needed-n.ensures in
    sym (length-take-le _ _ (rw n l.words_in))

pub returns : goal.returns
unfolding lengths opening_refusal opened
returns g c = λ choose route.
    let a = c.args in
    let t = tables {P = g.row.P.Denot} a.cycle.now a.queues.now a.places.now a.payloads.now a.words.now in
    let l = long_checked c.args.plan.now _ _ c.tables_long_enough-long.ensures c.in_ok-check.ensures in
    let m = queues_counted c.args.plan.now _ c.queues_needed-n.ensures in
    let n = c.queues_needed-n.ensures choose route in
    let z : c.default.result ≡ no_packets = λ i. record { first = c.default.ensures.0 i; count = c.default.ensures.1 i } in
    let queued = edit_filled _ no_packets _ _ (rw m l.queues_in) (c.fill.ensures.after (λ y e. search rules) ∙ ap (λ (q : Queue). replicate (length (take c.queues_needed-n.result a.queues.now)) q) z)
    ∙ ap (λ k. edit 0 k (λ _ _. no_packets) a.queues.now) n in
    let worded = edit_filled _ 0 _ _ (rw m l.words_in) (c.fill-2.ensures.after (λ y e. search rules))
    ∙ ap (λ k. edit 0 k (λ _ _. 0) a.words.now) n in
    opens (machine a.plan.now choose route) t _
    (check_passes _ _ (c.tables_long_enough-long.ensures choose route) TableTooShort [] c.in_ok-check.ensures)
    (λ i. tables {P = g.row.P.Denot} 0 (queued i) a.places.now a.payloads.now (worded i))
