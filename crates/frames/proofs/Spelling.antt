-- Reading a text pair by pair, and writing one.
use Rattle.std.proofs.Common.{◌≡◌, ℕ, ◌+◌, ◌*◌, ◌/◌, ◌%◌, ◌<◌, ◌≤◌, List, [], ◌∷◌, ◌++◌, length, get_or, take, drop, Some, None, Option, sym, refl, ap, ◌∙◌, arith, true, false, eqb}
use Rattle.std.specs.Option.{option_map}
use Rattle.std.proofs.lemmas.List.{append_assoc, take_more, length-append}
use Rattle.frames.specs.Hex.{bytes_of, digit, digit_value, hex_of, hex_line, paired}
use Rattle.std.proofs.lemmas.Bool.{eqb-true, eqb-false}
use Rattle.frames.specs.Lines.{line_feed}

paired_none :
    (high low : Option ℕ) (more : Option (List ℕ)) → None ≡ paired high low (Some []) → paired high low more ≡ None
paired_none None low more e = refl
paired_none (Some high) None more e = refl
paired_none (Some high) (Some low) more e = absurd (let z : ◌≡◌ {A = ℕ} 0 1 = cc in omega arith)

paired_some :
    (high low : Option ℕ) (more : Option (List ℕ)) (read : List ℕ) (byte : ℕ) → Some (byte ∷ []) ≡ paired high low (Some [])
    → option_map (λ bytes. read ++ bytes) (paired high low more) ≡ option_map (λ bytes. (read ++ byte ∷ []) ++ bytes) more
paired_some None low more read byte e = absurd (let z : ◌≡◌ {A = ℕ} 0 1 = cc in omega arith)
paired_some (Some high) None more read byte e = absurd (let z : ◌≡◌ {A = ℕ} 0 1 = cc in omega arith)
paired_some (Some high) (Some low) None read byte e = refl
paired_some (Some high) (Some low) (Some more) read byte e =
    let same : byte ≡ high * 16 + low = cc in
    ap Some (rw (← same) (sym (append_assoc read (byte ∷ []) more)))

-- the first two characters are no pair of digits
pub no_pair :
    (text : List ℕ) → 2 ≤ length text → None ≡ paired (digit_value (get_or text 0 0)) (digit_value (get_or text 1 0)) (Some [])
    → bytes_of text ≡ None
no_pair [] h e = absurd (omega arith)
no_pair (high ∷ []) h e = absurd (omega arith)
no_pair (high ∷ low ∷ text) h e = paired_none (digit_value high) (digit_value low) (bytes_of text) e

-- the first two characters are a byte
first_pair :
    (text read : List ℕ) (byte : ℕ) → 2 ≤ length text
    → Some (byte ∷ []) ≡ paired (digit_value (get_or text 0 0)) (digit_value (get_or text 1 0)) (Some [])
    → option_map (λ bytes. read ++ bytes) (bytes_of text) ≡ option_map (λ bytes. (read ++ byte ∷ []) ++ bytes) (bytes_of (drop 2 text))
first_pair [] read byte h e = absurd (omega arith)
first_pair (high ∷ []) read byte h e = absurd (omega arith)
first_pair (high ∷ low ∷ text) read byte h e = paired_some (digit_value high) (digit_value low) (bytes_of text) read byte e

-- the same, for what is read and left after it
pub a_pair :
    (text read more left : List ℕ) (byte : ℕ) → 2 ≤ length text
    → Some (byte ∷ []) ≡ paired (digit_value (get_or text 0 0)) (digit_value (get_or text 1 0)) (Some [])
    → more ≡ read ++ byte ∷ [] → left ≡ drop 2 text
    → option_map (λ bytes. read ++ bytes) (bytes_of text) ≡ option_map (λ bytes. more ++ bytes) (bytes_of left)
a_pair text read more left byte h e grown rest = rw (grown, rest) (first_pair text read byte h e)

pub no_text : (text : List ℕ) → eqb (length text) 0 ≡ true → bytes_of text ≡ Some []
no_text [] e = refl
no_text (c ∷ text) e = absurd (omega (arith, eqb-true (length (c ∷ text)) 0 e))

pub odd_text : (text : List ℕ) → length text < 2 → eqb (length text) 0 ≡ false → bytes_of text ≡ None
odd_text [] h e = absurd (omega (arith, eqb-false 0 0 e))
odd_text (c ∷ []) h e = refl
odd_text (c ∷ d ∷ text) h e = absurd (omega arith)

hex_append : (xs ys : List ℕ) → hex_of (xs ++ ys) ≡ hex_of xs ++ hex_of ys
hex_append [] ys = refl
hex_append (x ∷ xs) ys = ap (λ (text : List ℕ). digit (x / 16) ∷ digit (x % 16) ∷ text) (hex_append xs ys)

-- one byte more is written
pub hex_more :
    (start was after once : List ℕ) (bytes : List ℕ) (i high low : ℕ) → i < length bytes
    → was ≡ start ++ hex_of (take i bytes) → high ≡ digit (get_or bytes i 0 / 16) → low ≡ digit (get_or bytes i 0 % 16)
    → once ≡ was ++ high ∷ [] → after ≡ once ++ low ∷ []
    → after ≡ start ++ hex_of (take (i + 1) bytes)
hex_more start was after once bytes i high low h w eh el e1 e2 =
    let more : hex_of (take (i + 1) bytes) ≡ hex_of (take i bytes) ++ high ∷ low ∷ [] =
    ap hex_of (take_more bytes i 0 h) ∙ (hex_append (take i bytes) (get_or bytes i 0 ∷ []) ∙ rw (eh, el)) in
    rw (more, e2, e1, w) (simp append_assoc)

length_hex : (bytes : List ℕ) → length (hex_of bytes) ≡ length bytes * 2
length_hex [] = refl
length_hex (b ∷ bs) = omega (arith, length_hex bs)

pub length_line : (bytes : List ℕ) → length (hex_line bytes) ≡ length bytes * 2 + 1
length_line bytes = length-append (hex_of bytes) _ ∙ ap (λ (n : ℕ). n + 1) (length_hex bytes)

pub line_written :
    (start digits after bytes : List ℕ) → digits ≡ start ++ hex_of bytes → after ≡ digits ++ line_feed ∷ []
    → after ≡ start ++ hex_line bytes
line_written start digits after bytes d e = rw (e, d) (append_assoc start (hex_of bytes) (line_feed ∷ []))
