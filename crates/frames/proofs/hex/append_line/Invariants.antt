-- The digits of the bytes so far are written, and there is room for those of the others and the line feed.
use Rattle.std.proofs.Common.{◌≡◌, ◌+◌, ◌-◌, ◌*◌, ◌<◌, ◌++◌, length, take, vec_items, vec_len, vec_capacity}
use Rattle.frames.specs.Hex.{hex_of}
use Rattle.frames.proofs.hex.append_line.Given as goal

abbrev pub invariant-loop-byte : goal.invariant-loop-byte
invariant-loop-byte l =
    (vec_items l.out ≡ vec_items l.initial.out ++ hex_of (take l.byte-index l.bytes))
    × (vec_len l.out + (length l.bytes - l.byte-index) * 2 < vec_capacity l.out)
