-- The bytes read so far, and those of the rest, are the bytes of the line.
use Rattle.std.proofs.Common.{◌≡◌, ◌++◌, length, vec_items}
use Rattle.std.specs.Option.{option_map}
use Rattle.frames.specs.Hex.{bytes_of}
use Rattle.frames.proofs.hex.from_hex.Given as goal

abbrev pub invariant-loop-rest : goal.invariant-loop-rest
invariant-loop-rest l = bytes_of l.line ≡ option_map (λ more. vec_items l.bytes ++ more) (bytes_of l.rest)

abbrev pub decreases-loop-rest : goal.decreases-loop-rest
decreases-loop-rest l = length l.rest
