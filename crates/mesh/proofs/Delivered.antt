-- What a local port delivers.
use Rattle.std.proofs.Common.{◌≡◌, ℕ, ◌+◌, ◌*◌, ◌/◌, ◌<◌, List, [], length, get_or, Some, None, Option, refl, ap, ◌∙◌, arith}
use Rattle.std.specs.Simd.{first_chunks}
use Rattle.std.proofs.lemmas.List.{get_or_default}
use Rattle.machine.specs.declared.tables.Delivery.{Delivery}
use Rattle.mesh.specs.declared.moves.Move.{Move}
use Rattle.mesh.specs.After.{delivery_after, delivered_after}
use Rattle.mesh.proofs.Index.{chunk_at}

abbrev pub none : Delivery
none = record { mark = 0; domain = 0; source = 0 }

module _ (ms : List (Option Move)) where
  -- the local port's move, the last of five
  pub local : (rows : List (List (Option Move))) (r : ℕ) → rows ≡ first_chunks 5 (length ms / 5) ms → r < length ms / 5
      → get_or (get_or rows r []) 4 None ≡ get_or ms (r * 5 + 4) None
  local rows r e h = ap (λ xs. get_or (get_or xs r []) 4 None) e ∙ chunk_at 5 (length ms / 5) ms r 4 None h (omega arith)

  -- it passes nothing
  module _ (r : ℕ) (at : get_or ms (r * 5 + 4) None ≡ None) where
    pub no_mark : (x : Delivery) → none ≡ delivery_after ms r x
    unfolding delivery_after
    no_mark x = rw at refl

    pub keeps : {P : Type 0} (payloads : List P) (x : P) → x ≡ delivered_after ms payloads r x
    unfolding delivered_after
    keeps payloads x = rw at refl

  -- it passes a packet
  module _ (r : ℕ) (m : Move) (at : get_or ms (r * 5 + 4) None ≡ Some m) where
    pub marks : (x : Delivery) → record { mark = 1; domain = m.owner; source = m.source } ≡ delivery_after ms r x
    unfolding delivery_after
    marks x = rw at refl

    pub hands : {P : Type 0} (payloads : List P) (v x : P) → m.from < length payloads → v ≡ get_or payloads m.from v
        → v ≡ delivered_after ms payloads r x
    unfolding delivered_after
    hands payloads v x h is = rw at (is ∙ get_or_default payloads m.from v x h)
