use Rattle.std.proofs.Common.{ℕ, ◌<◌, ◌≡◌, arith, get_or}
use Rattle.std.proofs.lemmas.List.FromFn.{fill_by_all}
use Rattle.schedule.specs.Built.{built, built_entry}
use Rattle.schedule.specs.Timetable.{ports}
use Rattle.schedule.proofs.Padded.{filled_front}
use Rattle.schedule.proofs.Waves.{built_length}
use Rattle.schedule.proofs.allowed.AllowedSizes.built_offsets.Goals as goal

pub returns : goal.returns
unfolding built
returns c =
    let sizes = c.args.self.sizes in
    let period = c.args.self.period in
    let items = c.loop-k.offset-items in
    let each : (j : ℕ) → j < ports sizes → get_or items j 0 ≡ built_entry sizes period j = λ j l. c.loop-k.invariant.1 j (omega arith) in
    filled_front 320 c.ports.result items (built sizes period) (omega (arith, built_length sizes period, c.ports.ensures.is))
    (fill_by_all (built_entry sizes period) items (ports sizes) 0 c.loop-k.invariant.0 each)
