-- The three arbiters keep to the laws.
use Rattle.std.specs.Prelude.{refl}
use Rattle.std.proofs.Common.{arith}
use Rattle.rules.specs.Arbiters.{Arbitrates, fixed, grant, order_list, rotating}
use Rattle.rules.specs.Orders.{kept_is_whole, next_fits}
use Rattle.rules.specs.Priorities.{arbitrates}
use Rattle.rules.specs.Upward.{start_below, upward_is_whole}

pub fixed_arbitrates : Arbitrates fixed.bits (grant fixed)
fixed_arbitrates = arbitrates fixed (omega arith) (λ _. refl) (λ _ _. omega arith)

pub rotating_arbitrates : Arbitrates rotating.bits (grant rotating)
rotating_arbitrates = arbitrates rotating (omega arith) (λ kept. upward_is_whole _ (start_below kept)) (λ _ winner. omega arith)

pub order_list_arbitrates : Arbitrates order_list.bits (grant order_list)
order_list_arbitrates = arbitrates order_list (omega arith) kept_is_whole next_fits
