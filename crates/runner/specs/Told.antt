-- The delivery tables of a step, told line by line.
use Rattle.std.specs.Prelude.{ℕ, ◌+◌, cond, List, [], ◌∷◌, ◌++◌, ◌==◌}
use Rattle.frames.specs.Hex.{hex_line}
use Rattle.frames.specs.Output.{delivery_bytes}
use Rattle.machine.specs.declared.tables.Delivery.{Delivery}
use Rattle.frames.specs.Payloads.{Form}

-- a record with mark 1 has a line
unfoldable pub table_line : {P : Type 0} → Form P → ℕ → ℕ → Delivery → P → List ℕ
table_line form cycle router x p =
    cond (x.mark == 1) (hex_line (delivery_bytes cycle router x.domain x.source (form.bytes p))) []

-- records and payloads from a router on
unfoldable pub table_lines : {P : Type 0} → Form P → ℕ → ℕ → List Delivery → List P → List ℕ
table_lines form cycle router [] ps = []
table_lines form cycle router (x ∷ xs) [] = []
table_lines form cycle router (x ∷ xs) (p ∷ ps) = table_line form cycle router x p ++ table_lines form cycle (router + 1) xs ps
