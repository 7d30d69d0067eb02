-- A port told by its owner and the sides that ask for it.
use Rattle.std.specs.Prelude.{ℕ}
use Rattle.mesh.specs.declared.asking.Asked.{Asked}

abbrev pub asked : ℕ → ℕ → Asked
asked owner sides = record { owner = owner; sides = sides }

abbrev pub no_port : Asked
no_port = asked 0 0
