use Rattle.machine.proofs.Whole.{promise}
use Rattle.machine.proofs.promise.promise.Goals as goal

pub returns : goal.returns
returns g c = promise g.row.P.Denot c.args.plan.now _ _ _ (g.met.A.Arbiter.arbitrates c.args.arbiter.now)
    (g.met.R.RouteRule.routes c.args.route.now)
