-- Nothing is found yet, and the wave does not break at any port looked at so far, four to a router.
use Rattle.std.proofs.Common.{◌≡◌, ℕ, ◌+◌, ◌*◌, ◌/◌, ◌%◌, ◌<◌, false, Ok}
use Rattle.schedule.specs.Verdict.{breaks}
use Rattle.schedule.proofs.check.PortOffsets.check_wave.Given as goal

abbrev pub invariant-loop-side : goal.invariant-loop-side
invariant-loop-side l =
    (l.found ≡ Ok tt) × ((k : ℕ) → k < l.router * 4 + l.side → breaks l.self.allowed.sizes l.self.allowed.period l.self.offsets.now (k / 4) (k % 4) ≡ false)

abbrev pub invariant-scan : goal.invariant-scan
invariant-scan l = (l.found ≡ Ok tt) × ((k : ℕ) → k < l.router * 4 → breaks l.self.allowed.sizes l.self.allowed.period l.self.offsets.now (k / 4) (k % 4) ≡ false)
