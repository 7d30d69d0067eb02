-- A route rule of one's own: by columns first, and no side's number from column 8 on, where no mesh has a position.
use Rattle.std.specs.Prelude.{◌≡◌, ℕ, ◌≤◌, cond, nat_lt}
use Rattle.std.proofs.Common.{sym, subst, ◌∙◌, arith}
use Rattle.std.proofs.lemmas.Bool.{cond-true, lt-ltb}
use Rattle.schedule.specs.declared.geometry.Position.{Position}
use Rattle.schedule.specs.Mesh.{Within}
use Rattle.rules.specs.Routes.{Nearer, Routes, columns_first}
use Rattle.rules.specs.Nearer.{columns_first_routes}

abbrev pub inside_first : Position → Position → ℕ
inside_first from to = cond (nat_lt from.column 8) (columns_first from to) 255

inside_is : (width height : ℕ) (from to : Position) → width ≤ 8 → Within width height from → inside_first from to ≡ columns_first from to
inside_is width height from to low here = cond-true (nat_lt from.column 8) _ _ (lt-ltb from.column 8 (omega (arith, here.0)))

pub inside_first_routes : Routes inside_first
inside_first_routes = record {
  arrived = λ width height at w h here. inside_is width height at at w here ∙ columns_first_routes.arrived width height at w h here;
  only_arrived = λ width height from to w h here there e.
      columns_first_routes.only_arrived width height from to w h here there (sym (inside_is width height from to w here) ∙ e);
  nearer = λ width height from to w h here there apart.
      subst (Nearer width height from to) (sym (inside_is width height from to w here))
      (columns_first_routes.nearer width height from to w h here there apart);
}
