-- Payloads and their four bytes come back from one another.
use Rattle.std.specs.Prelude.{◌≡◌, ℕ, ◌+◌, ◌*◌, ◌/◌, ◌%◌, ◌^◌, ◌<◌}
use Rattle.std.proofs.Common.{refl, arith}
use Rattle.frames.specs.Payloads.{BytesBack, CollectionsBack, PayloadsBack, WordsBack, record_fits, record_form, word_form}

pub words_back : WordsBack
words_back word small = omega arith

pub word_bytes_back : BytesBack word_form
word_bytes_back a b c d ha hb hc hd =
    let first : ((((0 + a) * 256 + b) * 256 + c) * 256 + d) / 16777216 % 256 ≡ a = omega arith in
    let second : ((((0 + a) * 256 + b) * 256 + c) * 256 + d) / 65536 % 256 ≡ b = omega arith in
    let third : ((((0 + a) * 256 + b) * 256 + c) * 256 + d) / 256 % 256 ≡ c = omega arith in
    let fourth : ((((0 + a) * 256 + b) * 256 + c) * 256 + d) / 1 % 256 ≡ d = omega arith in
    rw (first, second, third, fourth) refl

two_back : (n : ℕ) → n < 2 ^ 16 → (0 + n / 256 % 256) * 256 + n / 1 % 256 ≡ n
two_back n small = omega arith

pub collections_back : CollectionsBack
collections_back c tank litres = rw (two_back c.tank tank, two_back c.litres litres) refl

pub records_back : PayloadsBack record_fits record_form
records_back c fits = collections_back c fits.0 fits.1

pub record_bytes_back : BytesBack record_form
record_bytes_back a b c d ha hb hc hd =
    let first : ((0 + a) * 256 + b) / 256 % 256 ≡ a = omega arith in
    let second : ((0 + a) * 256 + b) / 1 % 256 ≡ b = omega arith in
    let third : ((0 + c) * 256 + d) / 256 % 256 ≡ c = omega arith in
    let fourth : ((0 + c) * 256 + d) / 1 % 256 ≡ d = omega arith in
    rw (first, second, third, fourth) refl
