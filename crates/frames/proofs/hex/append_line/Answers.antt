-- The digits are written in reserved room; where none was reserved, nothing is.
use Rattle.std.proofs.Common.{arith}
use Rattle.frames.proofs.Spelling.{hex_more, length_line}
use Rattle.frames.proofs.hex.append_line.Goals as goal

pub returns-in_err-reserve-clause-succeeds : goal.returns-in_err-reserve-clause-succeeds
returns-in_err-reserve-clause-succeeds c =
    let line = length_line c.args.bytes.now in
    λ room. absurd (omega (arith, c.in_err-reserve.ensures.full, c.in-Some.ensures.1))

pub loop-byte-preserved : goal.loop-byte-preserved
loop-byte-preserved c = (
  hex_more _ _ _ _ c.args.bytes.now c.loop-byte.byte-index _ _ c.loop-byte-test.true c.loop-byte.invariant.0
      c.digit_of.ensures c.digit_of-in-loop-byte.ensures
      c.push_reserved.ensures.items c.push_reserved-in-loop-byte.ensures.items,
  omega arith,
)
