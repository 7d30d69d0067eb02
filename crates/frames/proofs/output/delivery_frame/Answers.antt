use Rattle.std.proofs.Common.{◌≡◌, ◌/◌, ◌%◌, length, ap, arith, rules}
use Rattle.frames.specs.Output.{delivery_bytes}
use Rattle.frames.proofs.Fields.{listed_all}
use Rattle.frames.proofs.output.delivery_frame.Goals as goal

pub returns : goal.returns
returns c =
    let four : length c.args.payload ≡ 4 = search rules in
    let payload = listed_all c.args.payload 0 4 four in
    let low : c.args.cycle % 256 ≡ c.args.cycle / 1 % 256 = omega arith in
    rw (c.to_be_bytes.ensures, low) (ap (delivery_bytes c.args.cycle c.args.router c.args.domain c.args.source) payload)
