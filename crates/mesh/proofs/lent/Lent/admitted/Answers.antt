use Rattle.std.proofs.Common.{◌<◌, ◌&&◌, ltb, get_or, Ok, sym, refl, ap, ◌∙◌, arith}
use Rattle.std.proofs.lemmas.Bool.{and_parts, ltb-true}
use Rattle.schedule.specs.declared.refusal.Refusal.TheVariants.{OutsideMesh, NoSuchDomain, QueueFull}
use Rattle.machine.specs.Calls.{answer, injection_refusal, own_queue}
use Rattle.machine.specs.Machine.{machine, depth, domains, routers}
use Rattle.machine.specs.Tables.{queue_at}
use Rattle.mesh.specs.Shared.{tables_of}
use Rattle.mesh.specs.Answers.{table_checks}
use Rattle.mesh.specs.Heads.{no_queue}
use Rattle.mesh.proofs.Fitting.{tables_fit, some_choice, some_route}
use Rattle.mesh.proofs.Refused.{passed, check_stops, check_passes, goes_on, handed_on, none_refuses, stops}
use Rattle.mesh.proofs.lent.Lent.admitted.Goals as goal

pub returns-in_err-check_tables : goal.returns-in_err-check_tables
unfolding answer injection_refusal
returns-in_err-check_tables g c = λ choose route.
    let t = tables_of c.args.self.now in
    let m = machine c.args.self.now.plan.now choose route in
    handed_on c.from_residual.result c.in_err-check_tables.field-0.0 c.from_residual.ensures.1
    ∙ sym (ap (λ v. answer v (own_queue m c.args.router c.args.domain))
    (stops (table_checks m t) _ _ (c.in_err-check_tables.ensures choose route)))

pub returns-in_err-check : goal.returns-in_err-check
unfolding answer injection_refusal routers
returns-in_err-check g c = λ choose route.
    let t = tables_of c.args.self.now in
    let m = machine c.args.self.now.plan.now choose route in
    let inside = ap (λ n. ltb c.args.router n && ltb c.args.destination n) c.routers-routers.ensures.is in
    handed_on c.from_residual-in_err-check.result c.in_err-check.field-0.0 c.from_residual-in_err-check.ensures.1
    ∙ sym (ap (λ v. answer v (own_queue m c.args.router c.args.domain))
    (goes_on (table_checks m t) _ (c.in_ok-check_tables.ensures choose route)
    ∙ check_stops _ _ inside OutsideMesh _ _ c.in_err-check.ensures))

pub returns-in_err-check-2 : goal.returns-in_err-check-2
unfolding answer injection_refusal routers domains
returns-in_err-check-2 g c = λ choose route.
    let t = tables_of c.args.self.now in
    let m = machine c.args.self.now.plan.now choose route in
    let inside = ap (λ n. ltb c.args.router n && ltb c.args.destination n) c.routers-routers.ensures.is in
    handed_on c.from_residual-in_err-check-2.result c.in_err-check-2.field-0.0 c.from_residual-in_err-check-2.ensures.1
    ∙ sym (ap (λ v. answer v (own_queue m c.args.router c.args.domain))
    (goes_on (table_checks m t) _ (c.in_ok-check_tables.ensures choose route)
    ∙ check_passes _ _ inside OutsideMesh _ c.in_ok-check.ensures
    ∙ check_stops _ _ refl NoSuchDomain _ _ c.in_err-check-2.ensures))

pub own_queue-q-requires : goal.own_queue-q-requires
own_queue-q-requires g c =
    let n = c.routers-routers.ensures.is in
    let r : c.args.router < c.routers-routers.result = ltb-true _ _ (and_parts _ _ (passed _ _ c.in_ok-check.ensures)).0 in
    record { router = omega arith; domain = ltb-true _ _ (passed _ _ c.in_ok-check-2.ensures) }

pub bounds-self-q : goal.bounds-self-q
bounds-self-q g c =
    let t = tables_of c.args.self.now in
    let f = tables_fit c.args.self.now.plan.now some_choice some_route t
    (none_refuses _ (c.in_ok-check_tables.ensures some_choice some_route)) in
    omega (arith, f.fit.queues_in, c.own_queue-q.ensures.inside)

pub returns-in_err-check-3 : goal.returns-in_err-check-3
unfolding answer injection_refusal routers domains depth queue_at
returns-in_err-check-3 g c = λ choose route.
    let t = tables_of c.args.self.now in
    let m = machine c.args.self.now.plan.now choose route in
    let inside = ap (λ n. ltb c.args.router n && ltb c.args.destination n) c.routers-routers.ensures.is in
    let room = ap (λ q. ltb (get_or c.args.self.now.queues.now q no_queue).count c.args.self.now.plan.now.sizes.depth) (c.own_queue-q.ensures.is choose route) in
    handed_on c.from_residual-in_err-check-3.result c.in_err-check-3.field-0.0 c.from_residual-in_err-check-3.ensures.1
    ∙ sym (ap (λ v. answer v (own_queue m c.args.router c.args.domain))
    (goes_on (table_checks m t) _ (c.in_ok-check_tables.ensures choose route)
    ∙ check_passes _ _ inside OutsideMesh _ c.in_ok-check.ensures
    ∙ check_passes _ _ refl NoSuchDomain _ c.in_ok-check-2.ensures
    ∙ check_stops _ _ room QueueFull _ _ c.in_err-check-3.ensures))

pub returns : goal.returns
unfolding answer injection_refusal routers domains depth queue_at
returns g c = λ choose route.
    let t = tables_of c.args.self.now in
    let m = machine c.args.self.now.plan.now choose route in
    let inside = ap (λ n. ltb c.args.router n && ltb c.args.destination n) c.routers-routers.ensures.is in
    let room = ap (λ q. ltb (get_or c.args.self.now.queues.now q no_queue).count c.args.self.now.plan.now.sizes.depth) (c.own_queue-q.ensures.is choose route) in
    ap (λ q. Ok q) (c.own_queue-q.ensures.is choose route)
    ∙ sym (ap (λ v. answer v (own_queue m c.args.router c.args.domain))
    (goes_on (table_checks m t) _ (c.in_ok-check_tables.ensures choose route)
    ∙ check_passes _ _ inside OutsideMesh _ c.in_ok-check.ensures
    ∙ check_passes _ _ refl NoSuchDomain _ c.in_ok-check-2.ensures
    ∙ check_passes _ _ room QueueFull _ c.in_ok-check-3.ensures))
