use Rattle.std.proofs.Common.{◌≡◌, ◌+◌, get_or, set, ap, ◌∙◌}
use Rattle.machine.specs.declared.tables.Place.{Place}
use Rattle.machine.specs.Calls.{fresh}
use Rattle.machine.specs.Machine.{machine}
use Rattle.machine.specs.Moves.{injection_moves, moved}
use Rattle.machine.specs.Tables.{tables, queue_at}
use Rattle.mesh.specs.Answers.{one_more}
use Rattle.mesh.specs.Heads.{no_queue}
use Rattle.mesh.specs.Orderly.{end_place}
use Rattle.mesh.proofs.Answered.{taken_in, turned_away}
use Rattle.mesh.proofs.Fitting.{admits_to, some_choice, some_route}
use Rattle.mesh.proofs.Injected.{injected}
use Rattle.mesh.proofs.Refused.{admits, handed_on, refuses}
use Rattle.mesh.proofs.inject.inject.Goals as goal

pub returns-in_err-q : goal.returns-in_err-q
returns-in_err-q g c = λ choose route.
    let a = c.args in
    let t = tables {P = g.row.P.Denot} a.cycle a.queues.now a.places.now a.payloads.now a.words.now in
    turned_away (machine c.args.plan.now choose route) t c.args.router c.args.domain c.args.destination c.args.payload _
    c.in_err-q.field-0.0 (handed_on c.from_residual.result c.in_err-q.field-0.0 c.from_residual.ensures.1)
    (refuses _ _ _ (c.in_err-q.ensures choose route))

pub join-requires : goal.join-requires
join-requires g c =
    let a = c.args in
    let t = tables {P = g.row.P.Denot} a.cycle a.queues.now a.places.now a.payloads.now a.words.now in
    let a = admits_to c.args.plan.now some_choice some_route t c.args.router c.args.domain c.args.destination c.in_ok-q.q
    (c.in_ok-q.ensures some_choice some_route) in
    record { fit = a.0.fit; payloads_in = a.0.payloads_in; inside = a.1; free = a.2 }

pub returns : goal.returns
unfolding fresh queue_at
returns g c = λ choose route.
    let a = c.args in
    let t = tables {P = g.row.P.Denot} a.cycle a.queues.now a.places.now a.payloads.now a.words.now in
    let m = machine c.args.plan.now choose route in
    let q = c.in_ok-q.q in
    let x = fresh c.args.cycle c.args.router c.args.destination c.args.payload in
    let a = admits_to c.args.plan.now choose route t c.args.router c.args.domain c.args.destination q (c.in_ok-q.ensures choose route) in
    let v = admits _ _ q (c.in_ok-q.ensures choose route) in
    let done = c.join.ensures in
    let end = end_place c.args.plan.now c.args.queues.now q in
    let place : Place = record { destination = c.args.destination; source = c.args.router; ready = c.args.cycle } in
    let u = tables {P = g.row.P.Denot} c.args.cycle c.join.new.queues c.join.new.places c.join.new.payloads c.args.words.now in
    let left = tables {P = g.row.P.Denot} c.args.cycle (set c.args.queues.now q (one_more (get_or c.args.queues.now q no_queue)))
    (set c.args.places.now end place) (set c.args.payloads.now end c.args.payload) c.args.words.now in
    let made : u ≡ left = λ i. tables {P = g.row.P.Denot} c.args.cycle (done.queued i) (done.placed i) (done.loaded i) c.args.words.now in
    taken_in m t c.args.router c.args.domain c.args.destination c.args.payload c.join.result u
    (done.counted ∙ ap (λ k. (get_or c.args.queues.now k no_queue).count + 1) v.1)
    (made ∙ injected c.args.plan.now choose route t a.0 q a.1 x ∙ ap (λ k. moved m (injection_moves t k x) c.args.cycle t) v.1)
    v.0
