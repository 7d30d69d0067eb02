use Rattle.std.proofs.Common.{◌-◌, ltb, get_or, refl, ap, ◌∙◌, arith}
use Rattle.std.proofs.lemmas.Bool.{ltb-true}
use Rattle.schedule.specs.declared.refusal.Refusal.TheVariants.{OutsideMesh, NoSuchDomain}
use Rattle.machine.specs.Calls.{room_refusal}
use Rattle.machine.specs.Machine.{machine, depth, domains, routers}
use Rattle.machine.specs.Tables.{tables, queue_at}
use Rattle.mesh.specs.Answers.{table_checks}
use Rattle.mesh.specs.Heads.{no_queue}
use Rattle.mesh.proofs.Answered.{no_room, tells_room}
use Rattle.mesh.proofs.Fitting.{tables_fit, some_choice, some_route}
use Rattle.mesh.proofs.Refused.{passed, check_stops, check_passes, goes_on, handed_on, none_refuses, stops}
use Rattle.mesh.proofs.room.room.Goals as goal

pub returns-in_err-check_tables : goal.returns-in_err-check_tables
unfolding room_refusal
returns-in_err-check_tables g c = λ choose route.
    let a = c.args in
    let t = tables {P = g.row.P.Denot} a.cycle a.queues.now a.places.now a.payloads.now a.words.now in
    let m = machine c.args.plan.now choose route in
    no_room _ _ _ _ _ _ (handed_on _ _ c.from_residual.ensures.1) (stops (table_checks m t) _ _ (c.in_err-check_tables.ensures choose route))

pub returns-in_err-check : goal.returns-in_err-check
unfolding room_refusal routers
returns-in_err-check g c = λ choose route.
    let a = c.args in
    let t = tables {P = g.row.P.Denot} a.cycle a.queues.now a.places.now a.payloads.now a.words.now in
    let m = machine c.args.plan.now choose route in
    let inside = ap (λ n. ltb c.args.router n) c.routers.ensures.is in
    no_room _ _ _ _ _ _ (handed_on _ _ c.from_residual-in_err-check.ensures.1)
    (goes_on (table_checks m t) _ (c.in_ok-check_tables.ensures choose route) ∙ check_stops _ _ inside OutsideMesh _ _ c.in_err-check.ensures)

pub returns-in_err-check-2 : goal.returns-in_err-check-2
unfolding room_refusal routers domains
returns-in_err-check-2 g c = λ choose route.
    let a = c.args in
    let t = tables {P = g.row.P.Denot} a.cycle a.queues.now a.places.now a.payloads.now a.words.now in
    let m = machine c.args.plan.now choose route in
    let inside = ap (λ n. ltb c.args.router n) c.routers.ensures.is in
    no_room _ _ _ _ _ _ (handed_on _ _ c.from_residual-in_err-check-2.ensures.1)
    (goes_on (table_checks m t) _ (c.in_ok-check_tables.ensures choose route)
    ∙ check_passes _ _ inside OutsideMesh _ c.in_ok-check.ensures
    ∙ check_stops _ _ refl NoSuchDomain _ _ c.in_err-check-2.ensures)

pub own_queue-requires : goal.own_queue-requires
own_queue-requires g c =
    let n = c.routers.ensures.is in
    let r = ltb-true _ _ (passed _ _ c.in_ok-check.ensures) in
    record { router = omega arith; domain = ltb-true _ _ (passed _ _ c.in_ok-check-2.ensures) }

pub bounds-queues-own_queue : goal.bounds-queues-own_queue
bounds-queues-own_queue g c =
    let a = c.args in
    let t = tables {P = g.row.P.Denot} a.cycle a.queues.now a.places.now a.payloads.now a.words.now in
    let f = tables_fit c.args.plan.now some_choice some_route t (none_refuses _ (c.in_ok-check_tables.ensures some_choice some_route)) in
    omega (arith, f.fit.queues_in, c.own_queue.ensures.inside)

pub overflow_sub-result : goal.overflow_sub-result
overflow_sub-result g c =
    let a = c.args in
    let t = tables {P = g.row.P.Denot} a.cycle a.queues.now a.places.now a.payloads.now a.words.now in
    let f = tables_fit c.args.plan.now some_choice some_route t (none_refuses _ (c.in_ok-check_tables.ensures some_choice some_route)) in
    f.fit.counts c.own_queue.result c.own_queue.ensures.inside

pub returns : goal.returns
unfolding room_refusal routers domains depth queue_at
returns g c = λ choose route.
    let a = c.args in
    let t = tables {P = g.row.P.Denot} a.cycle a.queues.now a.places.now a.payloads.now a.words.now in
    let m = machine c.args.plan.now choose route in
    let inside = ap (λ n. ltb c.args.router n) c.routers.ensures.is in
    tells_room _ _ _ _ _
    (ap (λ q. c.args.plan.now.sizes.depth - (get_or c.args.queues.now q no_queue).count) (c.own_queue.ensures.is choose route))
    (goes_on (table_checks m t) _ (c.in_ok-check_tables.ensures choose route)
    ∙ check_passes _ _ inside OutsideMesh _ c.in_ok-check.ensures
    ∙ check_passes _ _ refl NoSuchDomain _ c.in_ok-check-2.ensures)
