use Rattle.std.proofs.Common.{◌≡◌, true, length}
use Rattle.machine.specs.Tables.{all_below}
use Rattle.mesh.specs.Scan.{sound_queue}
use Rattle.mesh.proofs.lent.Lent.queues_sound.Given as goal

abbrev pub invariant-loop-x : goal.invariant-loop-x
invariant-loop-x g l = all_below (sound_queue l.self.plan.now l.self.cycle l.self.queues.now l.self.places.now) (length l.yielded) ≡ true
