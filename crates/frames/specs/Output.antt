-- The frames that the programs write: deliveries, frame 4, and refusals, frame 5.
use Rattle.std.specs.Prelude.{ℕ, List, [], ◌∷◌, ◌++◌}
use Rattle.schedule.specs.Refusals.{number}
use Rattle.schedule.specs.declared.refusal.Refusal.{Refusal}
use Rattle.frames.specs.Numerals.{number_bytes}

abbrev pub delivery_bytes : ℕ → ℕ → ℕ → ℕ → List ℕ → List ℕ
delivery_bytes cycle router domain source payload = 4 ∷ (number_bytes 4 cycle ++ (router ∷ domain ∷ source ∷ payload))

abbrev pub refusal_bytes : Refusal → List ℕ
refusal_bytes refusal = 5 ∷ number refusal ∷ []
