use Rattle.std.proofs.Common.{ℕ, ◌%◌, ◌<◌, List, sym, subst}
use Rattle.rules.specs.Arbiters.{Digits, first_asking, kept_order}
use Rattle.rules.specs.Orders.{kept_digits, kept_is_whole}
use Rattle.rules.specs.Priorities.{has_winner}
use Rattle.rules.proofs.order_list.OrderListArbiter.choose.Goals as goal

pub first_to_end-winner-requires : goal.first_to_end-winner-requires
first_to_end-winner-requires c =
    let kept = c.args.word % 32768 in
    subst (λ (order : List ℕ). Digits order × (first_asking c.args.sides order < 5)) (sym c.read_order-order.ensures)
    (kept_digits kept, (has_winner c.args.sides (kept_order kept) (sym c.if-contested.ensures) (kept_is_whole kept)).0)
