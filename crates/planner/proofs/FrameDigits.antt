-- The two digits by which a frame that is no plan is told.
use Rattle.std.proofs.Common.{◌≡◌, false, [], ◌∷◌, ◌^◌, ◌-◌, arith}
use Rattle.std.specs.Fmt.{padded_integral, format_spec, digits}
use Rattle.std.proofs.lemmas.Fmt.{hex_byte}
use Rattle.frames.specs.Hex.{hex_of}
use Rattle.planner.specs.Judged.{kind_number}
use Rattle.planner.specs.declared.judgement.OtherKind.{OtherKind}
use Rattle.planner.specs.declared.judgement.OtherKind.TheVariants.{Injection, Steps}

pub frame_digits : (kind : OtherKind) → padded_integral (format_spec 32 0 4 2 (2 ^ 64 - 1)) false [] (digits 16 false (kind_number kind)) ≡ hex_of (kind_number kind ∷ [])
frame_digits Injection = hex_byte false 2 (omega arith)
frame_digits Steps = hex_byte false 3 (omega arith)
