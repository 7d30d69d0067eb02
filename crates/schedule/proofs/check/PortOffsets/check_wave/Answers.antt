use Rattle.std.proofs.Common.{◌≡◌, ◌+◌, ◌*◌, ◌/◌, ◌%◌, true, sym, ap, ◌∙◌, arith}
use Rattle.std.proofs.lemmas.Nat.{div-mul-add, mod-mul-add}
use Rattle.schedule.specs.declared.refusal.Refusal.TheVariants.{WaveBroken}
use Rattle.schedule.specs.Timetable.{routers}
use Rattle.schedule.specs.Verdict.{answered, wave_check, breaks}
use Rattle.schedule.proofs.Refuse.{refused_at, refused_none}
use Rattle.schedule.proofs.check.PortOffsets.check_wave.Goals as goal

pub returns-after-scan : goal.returns-after-scan
unfolding wave_check
returns-after-scan c =
    let sizes = c.args.self.now.allowed.sizes in
    c.scan.invariant.0 ∙ sym (ap answered
    (refused_none (λ k. breaks sizes c.args.self.now.allowed.period c.args.self.now.offsets.now (k / 4) (k % 4)) (routers sizes * 4)
    (λ k. WaveBroken (k / 4) (k % 4)) (λ k l. c.scan.invariant.1 k (omega arith))))

pub returns-then-wave_breaks : goal.returns-then-wave_breaks
unfolding wave_check
returns-then-wave_breaks c =
    let sizes = c.args.self.now.allowed.sizes in
    let r = c.scan.router in
    let s = c.loop-side.side in
    let e : (r * 4 + s) / 4 ≡ r = div-mul-add r 4 s (omega arith) in
    let f : (r * 4 + s) % 4 ≡ s = mod-mul-add r 4 s (omega arith) in
    let here : breaks sizes c.args.self.now.allowed.period c.args.self.now.offsets.now r s ≡ true = sym c.if-wave_breaks.ensures in
    let broken : breaks sizes c.args.self.now.allowed.period c.args.self.now.offsets.now ((r * 4 + s) / 4) ((r * 4 + s) % 4) ≡ true = rw (e, f) here in
    let found = refused_at (λ k. breaks sizes c.args.self.now.allowed.period c.args.self.now.offsets.now (k / 4) (k % 4)) (routers sizes * 4)
    (λ k. WaveBroken (k / 4) (k % 4)) (r * 4 + s) (omega arith) c.loop-side.invariant.1 broken in
    rw found (rw (e, f))
