use Rattle.std.proofs.Common.{◌≡◌, ℕ, ◌<◌, true, get_or}
use Rattle.mesh.specs.Heads.{no_place}
use Rattle.mesh.specs.Scan.{held, sound_place}
use Rattle.mesh.proofs.lent.Lent.packets_sound.Given as goal

abbrev pub invariant-loop-s : goal.invariant-loop-s
invariant-loop-s g l = (s : ℕ) → s < l.s → held g.row.B l.x s ≡ true
    → sound_place l.self.plan.now l.self.cycle (get_or l.ring s no_place) ≡ true
