-- The four payload bytes of a packet, read as a word or as a record of a collection.
use Rattle.std.specs.Prelude.{◌≡◌, ℕ, ◌^◌, ◌<◌, List, [], ◌∷◌, ◌++◌}
use Rattle.frames.specs.Numerals.{number_bytes, number_at}
use Rattle.frames.specs.declared.payload.Collection.{Collection}

-- the tank, then the litres
abbrev pub collection_payload : Collection → List ℕ
collection_payload c = number_bytes 2 c.tank ++ number_bytes 2 c.litres

abbrev pub payload_collection : List ℕ → Collection
payload_collection payload = record { tank = number_at payload 0 2; litres = number_at payload 2 2 }

-- a payload as four bytes, and back
pub record Form (P : Type 0) : Type 0 where
  pub bytes : P → List ℕ
  pub value : List ℕ → P

abbrev pub word_form : Form ℕ
word_form = record { bytes = number_bytes 4; value = λ bytes. number_at bytes 0 4 }

abbrev pub record_form : Form Collection
record_form = record { bytes = collection_payload; value = payload_collection }

-- the words, and the records, that the types of their fields hold
abbrev pub word_fits : ℕ → Type 0
word_fits word = word < 2 ^ 32

abbrev pub record_fits : Collection → Type 0
record_fits c = (c.tank < 2 ^ 16) × (c.litres < 2 ^ 16)

-- a payload comes back from its bytes, and four bytes come back from their payload
abbrev pub PayloadsBack : {P : Type 0} → (P → Type 0) → Form P → Type 0
PayloadsBack {P} Fits form = (payload : P) → Fits payload → form.value (form.bytes payload) ≡ payload

abbrev pub BytesBack : {P : Type 0} → Form P → Type 0
BytesBack form =
    (a b c d : ℕ) → a < 256 → b < 256 → c < 256 → d < 256
    → form.bytes (form.value (a ∷ b ∷ c ∷ d ∷ [])) ≡ a ∷ b ∷ c ∷ d ∷ []

-- a word, and a record, come back from their bytes
abbrev pub WordsBack : Type 0
WordsBack = (word : ℕ) → word < 2 ^ 32 → number_at (number_bytes 4 word) 0 4 ≡ word

abbrev pub CollectionsBack : Type 0
CollectionsBack = (c : Collection) → c.tank < 2 ^ 16 → c.litres < 2 ^ 16 → payload_collection (collection_payload c) ≡ c
