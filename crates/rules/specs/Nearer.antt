-- A side that is chosen by column or by row leads nearer, whichever of the two is looked at first.
use Rattle.std.specs.Prelude.{◌≡◌, ℕ, ◌+◌, ◌-◌, ◌<◌, ◌≢◌, nat_lt, refl}
use Rattle.std.proofs.Common.{sym, ap, ◌∙◌, arith}
use Rattle.std.proofs.lemmas.Option.{none-some}
use Rattle.std.proofs.lemmas.Bool.{cond_both, cond-true, lt-ltb, ltb-true, ltb-false}
use Rattle.schedule.specs.declared.geometry.Position.{Position}
use Rattle.schedule.specs.Mesh.{Within, hops, neighbour, position}
use Rattle.rules.specs.Routes.{Nearer, Routes, along, by_column, by_row, columns_first, rows_first}

same_position : (a b : Position) → a.column ≡ b.column → a.row ≡ b.row → a ≡ b
same_position a b columns rows = λ i. record { column = columns i; row = rows i }

-- what a route rule owes of the side that it names between two routers
record Leads (width height : ℕ) (from to : Position) (side : ℕ) : Type 0 where
  stops : from ≡ to → side ≡ 4
  only_stops : side ≡ 4 → from ≡ to
  goes_on : (from ≢ to) → Nearer width height from to side

module _ (width height : ℕ) (from to : Position) (here : Within width height from) (there : Within width height to) where
  abbrev Lead : ℕ → Type 0
  Lead = Leads width height from to

  -- a side that leads nearer is no packet's last
  onward : (side : ℕ) → Nearer width height from to side → Lead side
  onward side near = record {
    stops = λ same. absurd (omega (arith, near.2, ap (λ p. hops p to) same));
    only_stops = λ home. absurd (none-some near.0 (sym (ap (neighbour width height from) home) ∙ near.1));
    goes_on = λ _. near;
  }

  along_leads : (a b ahead behind side : ℕ) → (a < b → Lead ahead) → (b < a → Lead behind) → (a ≡ b → Lead side)
      → Lead (along a b ahead behind side)
  along_leads a b ahead behind side below above level =
      cond_both (nat_lt a b) ahead _ Lead (λ e. below (ltb-true a b e))
      (λ not_below. cond_both (nat_lt b a) behind side Lead (λ e. above (ltb-true b a e))
      (λ not_above. let e : a ≡ b = omega (arith, ltb-false a b not_below, ltb-false b a not_above) in level e))

  column_leads : (side : ℕ) → (from.column ≡ to.column → Lead side) → Lead (by_column from to side)
  column_leads side =
      along_leads from.column to.column 0 1 side
      (λ east. onward 0 (position (from.column + 1) from.row, cond-true _ _ _ (lt-ltb (from.column + 1) width (omega arith)), omega arith))
      (λ west. onward 1 (position (from.column - 1) from.row, cond-true _ _ _ (lt-ltb 0 from.column (omega arith)), omega arith))

  row_leads : (side : ℕ) → (from.row ≡ to.row → Lead side) → Lead (by_row from to side)
  row_leads side =
      along_leads from.row to.row 2 3 side
      (λ south. onward 2 (position from.column (from.row + 1), cond-true _ _ _ (lt-ltb (from.row + 1) height (omega arith)), omega arith))
      (λ north. onward 3 (position from.column (from.row - 1), cond-true _ _ _ (lt-ltb 0 from.row (omega arith)), omega arith))

  home_leads : from.column ≡ to.column → from.row ≡ to.row → Lead 4
  home_leads columns rows =
      let same = same_position from to columns rows in
      record { stops = λ _. refl; only_stops = λ _. same; goes_on = λ apart. absurd (apart same) }

  columns_first_leads : Lead (columns_first from to)
  columns_first_leads = column_leads (by_row from to 4) (λ columns. row_leads 4 (home_leads columns))

  rows_first_leads : Lead (rows_first from to)
  rows_first_leads = row_leads (by_column from to 4) (λ rows. column_leads 4 (λ columns. home_leads columns rows))

routes_from : (side : Position → Position → ℕ)
    → ((width height : ℕ) (from to : Position) → Within width height from → Within width height to
    → Leads width height from to (side from to))
    → Routes side
routes_from side leads = record {
  arrived = λ width height at _ _ here. (leads width height at at here here).stops refl;
  only_arrived = λ width height from to _ _ here there. (leads width height from to here there).only_stops;
  nearer = λ width height from to _ _ here there. (leads width height from to here there).goes_on;
}

pub columns_first_routes : Routes columns_first
columns_first_routes = routes_from columns_first columns_first_leads

pub rows_first_routes : Routes rows_first
rows_first_routes = routes_from rows_first rows_first_leads
