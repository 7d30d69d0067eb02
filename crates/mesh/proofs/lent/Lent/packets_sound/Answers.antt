use Rattle.std.proofs.Common.{sym, ap, ◌∙◌, arith}
use Rattle.machine.specs.Tables.{all_below}
use Rattle.mesh.specs.Scan.{sound_in}
use Rattle.mesh.proofs.Scan.{below_none as none_below, scan_all, scan_stop}
use Rattle.mesh.proofs.lent.Lent.packets_sound.Goals as goal

pub returns-then-x-eq0 : goal.returns-then-x-eq0
returns-then-x-eq0 g c =
    let f = sound_in c.args.self.now.plan.now c.args.self.now.cycle g.row.B c.args.ring.now c.args.x.first in
    sym (ap (all_below f) c.if-x-eq0.true ∙ none_below f)

pub returns-then-spoils : goal.returns-then-spoils
returns-then-spoils g c =
    sym (scan_stop c.args.self.now.plan.now c.args.self.now.cycle g.row.B c.args.ring.now c.args.x c.requires.first c.requires.count
    c.loop-s.s c.loop-s-test.true c.if-spoils.ensures)

pub returns : goal.returns
returns g c =
    sym (scan_all c.args.self.now.plan.now c.args.self.now.cycle g.row.B c.args.ring.now c.args.x c.requires.first c.requires.count
    (λ s h. c.loop-s.invariant s (omega arith)))
