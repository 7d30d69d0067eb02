use Rattle.std.proofs.Common.{◌&&◌, ltb, sym, ◌∙◌}
use Rattle.schedule.specs.Plans.{timetable_of}
use Rattle.schedule.specs.Turns as turns
use Rattle.mesh.specs.Heads.{routers}
use Rattle.mesh.specs.Ports.{owner}
use Rattle.mesh.proofs.Owners.{owner_below, known_is}
use Rattle.mesh.proofs.outset.Outset.owner.Goals as goal

pub returns : goal.returns
unfolding owner
returns g c =
    let plan = c.args.self.now.plan.now in
    let is = known_is (ltb c.args.router (routers plan) && ltb c.args.port 5)
    (turns.owner (timetable_of plan) c.args.router c.args.port c.args.self.now.cycle) c.unwrap.result (sym c.unwrap.ensures ∙ c.owner.ensures) in
    record { is = is; below = rw is (owner_below plan c.args.self.now.cycle _) }
