-- Hexadecimal digits and bytes: one spelling each.
use Rattle.std.proofs.Common.{◌≡◌, ℕ, ◌+◌, ◌*◌, ◌/◌, ◌%◌, ◌<◌, List, [], ◌∷◌, Some, None, Option, refl, arith}
use Rattle.std.specs.List.{range_with_len, AllByRecursion}
use Rattle.frames.specs.Hex.{digit, digit_value, hex_of, bytes_of, paired}
use Rattle.frames.proofs.Apart.{found_right, same_counting, counting_below}

digit_read : (v : ℕ) → v < 16 → digit_value (digit v) ≡ Some v
digit_read v h = same_counting (λ k. digit_value (digit k)) Some 0 16 refl v (omega arith) (omega arith)

digit_written : (v c : ℕ) → digit_value c ≡ Some v → (digit v ≡ c) × (v < 16)
digit_written v c h = found_right digit (λ k. k < 16) (range_with_len 0 16) (counting_below 0 16 16 (omega arith)) v c h

byte_back : (b : ℕ) (bs : List ℕ) → b < 256 → paired (Some (b / 16)) (Some (b % 16)) (Some bs) ≡ Some (b ∷ bs)
byte_back b bs h = let e : b / 16 * 16 + b % 16 ≡ b = omega arith in rw e

pub bytes_back : (bytes : List ℕ) → AllByRecursion (λ b. b < 256) bytes → bytes_of (hex_of bytes) ≡ Some bytes
bytes_back [] h = refl
bytes_back (b ∷ bs) h =
    let high : b / 16 < 16 = omega arith in
    let low : b % 16 < 16 = omega arith in
    rw (digit_read (b / 16) high, digit_read (b % 16) low, bytes_back bs h.1) (byte_back b bs h.0)

text_back_at :
    (c d : ℕ) (text : List ℕ) (high low : Option ℕ) (more : Option (List ℕ)) (bytes : List ℕ)
    → digit_value c ≡ high → digit_value d ≡ low → ((rest : List ℕ) → more ≡ Some rest → hex_of rest ≡ text)
    → paired high low more ≡ Some bytes → hex_of bytes ≡ c ∷ d ∷ text
text_back_at c d text None low more bytes eh el em h = absurd (let z : ◌≡◌ {A = ℕ} 0 1 = cc in omega arith)
text_back_at c d text (Some high) None more bytes eh el em h = absurd (let z : ◌≡◌ {A = ℕ} 0 1 = cc in omega arith)
text_back_at c d text (Some high) (Some low) None bytes eh el em h = absurd (let z : ◌≡◌ {A = ℕ} 0 1 = cc in omega arith)
text_back_at c d text (Some high) (Some low) (Some rest) bytes eh el em h =
    let this : bytes ≡ (high * 16 + low) ∷ rest = cc in
    let dh = digit_written high c eh in
    let dl = digit_written low d el in
    let small : low < 16 = dl.1 in
    let up : (high * 16 + low) / 16 ≡ high = omega arith in
    let down : (high * 16 + low) % 16 ≡ low = omega arith in
    rw (this, up, down, dh.0, dl.0, em rest refl)

pub text_back : (text bytes : List ℕ) → bytes_of text ≡ Some bytes → hex_of bytes ≡ text
text_back [] bytes h = let this : bytes ≡ [] = cc in rw this
text_back (c ∷ []) bytes h = absurd (let z : ◌≡◌ {A = ℕ} 0 1 = cc in omega arith)
text_back (c ∷ d ∷ text) bytes h =
    text_back_at c d text (digit_value c) (digit_value d) (bytes_of text) bytes refl refl (text_back text) h
