-- A refused step leaves all as it was; a step that is run leaves what the moves of its cycle make.
use Rattle.std.proofs.Common.{◌≡◌, ℕ, ◌+◌, ◌*◌, ◌/◌, ◌<◌, List, length, take, sym, refl, ap, ap₂, ◌∙◌, subst, arith, Option}
use Rattle.machine.specs.Machine.{machine}
use Rattle.machine.specs.Moves.{edit}
use Rattle.machine.specs.Tables.{tables}
use Rattle.mesh.specs.declared.moves.Move.{Move}
use Rattle.mesh.specs.After.{queue_after, place_after, payload_after, word_after, delivery_after, delivered_after}
use Rattle.mesh.specs.Heads.{outset, routers, queue_count}
use Rattle.mesh.specs.Orderly.{Orderly}
use Rattle.mesh.specs.Ports.{move_at}
use Rattle.std.proofs.Math.Nat.{mul-div_left}
use Rattle.machine.specs.Calls.{outcome_of}
use Rattle.mesh.proofs.Clear.{made, made_length}
use Rattle.mesh.proofs.Cycled.{queues_cycled, places_cycled, payloads_cycled, words_cycled, deliveries_cycled, delivered_cycled}
use Rattle.mesh.proofs.Sent.{lawful_by, orderly_moves}
use Rattle.mesh.proofs.Refused.{handed_on, none_refuses, some_refuses}
use Rattle.mesh.proofs.Stepping.{refused, running, runs}
use Rattle.mesh.proofs.step.step.Goals as goal

pub returns-in_err-check_step : goal.returns-in_err-check_step
returns-in_err-check_step g c =
    let plan = c.args.plan.now in
    let choose = g.A.Arbiter.meaning c.args.arbiter.now in
    let route = g.R.RouteRule.meaning c.args.rule.now in
    let t = tables c.args.cycle.now c.args.queues.now c.args.places.now c.args.payloads.now c.args.words.now in
    let m = machine plan choose route in
    let why = c.in_err-check_step.field-0.0 in
    ap (λ r. outcome_of r t c.args.deliveries.now c.args.delivered.now) (handed_on c.from_residual.result why c.from_residual.ensures.1)
    ∙ refused m t c.args.deliveries.now c.args.delivered.now why (some_refuses _ why (c.in_err-check_step.ensures choose route))

pub invariant_of-outset : goal.invariant_of-outset
invariant_of-outset g c =
    let plan = c.args.plan.now in
    let choose = g.A.Arbiter.meaning c.args.arbiter.now in
    let route = g.R.RouteRule.meaning c.args.rule.now in
    let t = tables c.args.cycle.now c.args.queues.now c.args.places.now c.args.payloads.now c.args.words.now in
    let run = running plan choose route t c.args.deliveries.now c.args.delivered.now
    (none_refuses _ (c.in_ok-check_step.ensures choose route)) in
    record { fit = run.lent.fit; words_in = run.lent.words_in }

pub overflow_add-cycle : goal.overflow_add-cycle
overflow_add-cycle g c =
    let plan = c.args.plan.now in
    let choose = g.A.Arbiter.meaning c.args.arbiter.now in
    let route = g.R.RouteRule.meaning c.args.rule.now in
    let t = tables c.args.cycle.now c.args.queues.now c.args.places.now c.args.payloads.now c.args.words.now in
    let run = running plan choose route t c.args.deliveries.now c.args.delivered.now
    (none_refuses _ (c.in_ok-check_step.ensures choose route)) in
    omega (arith, run.unspent)

pub deliver-requires : goal.deliver-requires
deliver-requires g c =
    let plan = c.args.plan.now in
    let choose = g.A.Arbiter.meaning c.args.arbiter.now in
    let route = g.R.RouteRule.meaning c.args.rule.now in
    let t = tables c.args.cycle.now c.args.queues.now c.args.places.now c.args.payloads.now c.args.words.now in
    let run = running plan choose route t c.args.deliveries.now c.args.delivered.now
    (none_refuses _ (c.in_ok-check_step.ensures choose route)) in
    let v = outset plan route t.cycle t.queues t.places in
    let ms : List (Option Move) = take (c.routers.result * 5) c.choose_all.new.moves in
    let e : ms ≡ made v choose t.words = ap₂ take (ap (λ n. n * 5) c.routers.ensures.is) c.choose_all.ensures in
    let lawful = lawful_by choose (g.met.A.Arbiter.arbitrates c.args.arbiter.now) in
    let n : length ms / 5 ≡ routers plan = ap (λ xs. length xs / 5) e ∙ ap (λ k. k / 5) (made_length v choose t.words) ∙ mul-div_left (routers plan) (omega arith) in
    let o = orderly_moves plan choose route t run.lent lawful in
    let F : List (Option Move) → Type 0 = λ ms. (k : ℕ) → (move_at ms k).from < length c.args.payloads.now in
    record {
      deliveries_in = rw n run.deliveries_in;
      delivered_in = rw n run.delivered_in;
      froms = subst F (sym e) (λ k. omega (arith, o.froms k, run.lent.payloads_in));
    }

pub make_moves-requires : goal.make_moves-requires
make_moves-requires g c =
    let plan = c.args.plan.now in
    let choose = g.A.Arbiter.meaning c.args.arbiter.now in
    let route = g.R.RouteRule.meaning c.args.rule.now in
    let t = tables c.args.cycle.now c.args.queues.now c.args.places.now c.args.payloads.now c.args.words.now in
    let run = running plan choose route t c.args.deliveries.now c.args.delivered.now
    (none_refuses _ (c.in_ok-check_step.ensures choose route)) in
    let v = outset plan route t.cycle t.queues t.places in
    let ms : List (Option Move) = take (c.routers.result * 5) c.choose_all.new.moves in
    let e : ms ≡ made v choose t.words = ap₂ take (ap (λ n. n * 5) c.routers.ensures.is) c.choose_all.ensures in
    let lawful = lawful_by choose (g.met.A.Arbiter.arbitrates c.args.arbiter.now) in
    let O : List (Option Move) → Type 0 = λ ms. Orderly plan c.args.queues.now ms in
    record {
      fit = run.lent.fit;
      payloads_in = run.lent.payloads_in;
      words_in = run.lent.words_in;
      moves_in = ap length e ∙ made_length v choose t.words;
      orderly = subst O (sym e) (orderly_moves plan choose route t run.lent lawful);
    }

pub returns : goal.returns
returns g c =
    let plan = c.args.plan.now in
    let choose = g.A.Arbiter.meaning c.args.arbiter.now in
    let route = g.R.RouteRule.meaning c.args.rule.now in
    let t = tables c.args.cycle.now c.args.queues.now c.args.places.now c.args.payloads.now c.args.words.now in
    let run = running plan choose route t c.args.deliveries.now c.args.delivered.now
    (none_refuses _ (c.in_ok-check_step.ensures choose route)) in
    let v = outset plan route t.cycle t.queues t.places in
    let ms : List (Option Move) = take (c.routers.result * 5) c.choose_all.new.moves in
    let e : ms ≡ made v choose t.words = ap₂ take (ap (λ n. n * 5) c.routers.ensures.is) c.choose_all.ensures in
    let lawful = lawful_by choose (g.met.A.Arbiter.arbitrates c.args.arbiter.now) in
    let n = queue_count plan in
    let r : length ms / 5 ≡ routers plan = ap (λ xs. length xs / 5) e ∙ ap (λ k. k / 5) (made_length v choose t.words) ∙ mul-div_left (routers plan) (omega arith) in
    let done = c.make_moves.ensures in
    let next =
    tables (c.args.cycle.now + 1) c.make_moves.new.queues c.make_moves.new.places c.make_moves.new.payloads
    c.make_moves.new.words in
    runs (machine plan choose route) t c.args.deliveries.now c.args.delivered.now
    (none_refuses _ (c.in_ok-check_step.ensures choose route)) next c.deliver.new.deliveries c.deliver.new.delivered refl
    (done.queued ∙ ap (λ ms. edit 0 n (queue_after plan ms) t.queues) e ∙ queues_cycled plan choose route t run.lent lawful)
    (done.placed ∙ ap (λ ms. edit 0 (n * plan.sizes.depth) (place_after plan t.cycle t.queues ms) t.places) e
    ∙ places_cycled plan choose route t run.lent lawful)
    (done.loaded ∙ ap (λ ms. edit 0 (n * plan.sizes.depth) (payload_after plan t.queues ms t.payloads) t.payloads) e
    ∙ payloads_cycled plan choose route t run.lent lawful)
    (done.worded ∙ ap (λ ms. edit 0 n (word_after plan ms) t.words) e ∙ words_cycled plan choose route t run.lent lawful)
    (c.deliver.ensures.marked ∙ ap₂ (λ k ms. edit 0 k (delivery_after ms) c.args.deliveries.now) r e
    ∙ deliveries_cycled plan choose route t run.lent lawful c.args.deliveries.now)
    (c.deliver.ensures.handed ∙ ap₂ (λ k ms. edit 0 k (delivered_after ms t.payloads) c.args.delivered.now) r e
    ∙ delivered_cycled plan choose route t run.lent lawful c.args.delivered.now)
