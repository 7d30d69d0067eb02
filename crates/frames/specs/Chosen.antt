-- What the arbiter and the route rule mean that a plan frame names, and the laws that they keep to.
use Rattle.std.specs.Prelude.{ℕ}
use Rattle.schedule.specs.declared.geometry.Position.{Position}
use Rattle.rules.specs.Arbiters.{Arbitrates, fixed, rotating, order_list, grant}
use Rattle.rules.specs.Lawful.{fixed_arbitrates, order_list_arbitrates, rotating_arbitrates}
use Rattle.rules.specs.Nearer.{columns_first_routes, rows_first_routes}
use Rattle.rules.specs.Routes.{Routes, columns_first, rows_first}
use Rattle.frames.specs.declared.choices.ArbiterKind.{ArbiterKind}
use Rattle.frames.specs.declared.choices.ArbiterKind.TheVariants.{Fixed, Rotating, OrderList}
use Rattle.frames.specs.declared.choices.RouteKind.{RouteKind}
use Rattle.frames.specs.declared.choices.RouteKind.TheVariants.{ColumnsFirst, RowsFirst}

abbrev pub arbiter_bits : ArbiterKind → ℕ
arbiter_bits Fixed = fixed.bits
arbiter_bits Rotating = rotating.bits
arbiter_bits OrderList = order_list.bits

abbrev pub arbiter_meant : ArbiterKind → ℕ → ℕ → ℕ × ℕ
arbiter_meant Fixed = grant fixed
arbiter_meant Rotating = grant rotating
arbiter_meant OrderList = grant order_list

abbrev pub route_meant : RouteKind → Position → Position → ℕ
route_meant ColumnsFirst = columns_first
route_meant RowsFirst = rows_first

pub arbiter_arbitrates : (kind : ArbiterKind) → Arbitrates (arbiter_bits kind) (arbiter_meant kind)
arbiter_arbitrates Fixed = fixed_arbitrates
arbiter_arbitrates Rotating = rotating_arbitrates
arbiter_arbitrates OrderList = order_list_arbitrates

pub route_routes : (kind : RouteKind) → Routes (route_meant kind)
route_routes ColumnsFirst = columns_first_routes
route_routes RowsFirst = rows_first_routes
