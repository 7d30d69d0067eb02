-- Bytes and their text: two lowercase hexadecimal digits a byte, the high one first.
use Rattle.std.specs.Prelude.{◌≡◌, ℕ, ◌+◌, ◌*◌, ◌/◌, ◌%◌, ◌<◌, List, [], ◌∷◌, ◌++◌, Some, None, codes, Option, slice_index}
use Rattle.std.specs.List.{range_with_len, AllByRecursion}
use Rattle.frames.specs.Lines.{line_feed}
use Rattle.frames.specs.Numbered.{named}

-- the character of a digit from 0 to 15
abbrev pub digit : ℕ → ℕ
digit value = slice_index (codes "0123456789abcdef") value

abbrev pub digit_value : ℕ → Option ℕ
digit_value = named digit (range_with_len 0 16)

abbrev pub hex_of : List ℕ → List ℕ
hex_of [] = []
hex_of (byte ∷ bytes) = digit (byte / 16) ∷ digit (byte % 16) ∷ hex_of bytes

-- the line that is written for the bytes
abbrev pub hex_line : List ℕ → List ℕ
hex_line bytes = hex_of bytes ++ line_feed ∷ []

-- a byte by its two digits, before the bytes that follow
abbrev pub paired : Option ℕ → Option ℕ → Option (List ℕ) → Option (List ℕ)
paired None low bytes = None
paired (Some high) None bytes = None
paired (Some high) (Some low) None = None
paired (Some high) (Some low) (Some bytes) = Some ((high * 16 + low) ∷ bytes)

-- the bytes that a text spells, where it is pairs of digits
abbrev pub bytes_of : List ℕ → Option (List ℕ)
bytes_of [] = Some []
bytes_of (high ∷ []) = None
bytes_of (high ∷ low ∷ text) = paired (digit_value high) (digit_value low) (bytes_of text)

-- each list of bytes has one text, and is read from that text alone
abbrev pub OneSpelling : Type 0
OneSpelling =
    (bytes text : List ℕ)
    → (AllByRecursion (λ byte. byte < 256) bytes → hex_of bytes ≡ text → bytes_of text ≡ Some bytes)
    × (bytes_of text ≡ Some bytes → hex_of bytes ≡ text)
