-- Queue numbers: router, side and domain to and fro.
use Rattle.std.proofs.Common.{◌≡◌, ℕ, ◌+◌, ◌*◌, ◌/◌, ◌%◌, ◌<◌, true, ap, ◌∙◌, mod-lt, div-add-mod', arith}
use lib.Arith.{digits_lt, digits_div, digits_mod}
use Rattle.std.proofs.lemmas.Nat.{div_below}
use Rattle.machine.specs.Machine.{Machine, inside, routers, queues, queue_number, domains}
use Rattle.machine.specs.Moves.{domain_of, side_of, router_of}

module _ (c : Machine) where
  pub inside_parts : (r i : ℕ) → inside c r i ≡ true → (r < routers c) × (i < 5)
  unfolding inside
  inside_parts r i e = grind arith

  pub inside_from : (r i : ℕ) → r < routers c → i < 5 → inside c r i ≡ true
  unfolding inside
  inside_from r i h k = grind arith

  module _ (r i d : ℕ) (hr : r < routers c) (hi : i < 5) (hd : d < domains c) where
    pub queue_number_lt : queue_number c r i d < queues c
    unfolding queue_number queues
    queue_number_lt = digits_lt (digits_lt hr hi) hd

    pub domain_queue_number : domain_of c (queue_number c r i d) ≡ d
    unfolding queue_number domain_of
    domain_queue_number = digits_mod (r * 5 + i) hd

    pub side_queue_number : side_of c (queue_number c r i d) ≡ i
    unfolding queue_number side_of
    side_queue_number = ap (λ (x : ℕ). x % 5) (digits_div (r * 5 + i) hd) ∙ digits_mod r hi

    pub router_queue_number : router_of c (queue_number c r i d) ≡ r
    unfolding queue_number router_of
    router_queue_number = ap (λ (x : ℕ). x / 5) (digits_div (r * 5 + i) hd) ∙ digits_div r hi

  pub number_inside : (r i d : ℕ) → inside c r i ≡ true → d < domains c → queue_number c r i d < queues c
  number_inside r i d e hd = let p = inside_parts r i e in queue_number_lt r i d p.0 p.1 hd

  module _ (q : ℕ) (h : q < queues c) where
    domains_some : 0 < domains c
    unfolding queues
    domains_some = grind arith

    pub domain_lt : domain_of c q < domains c
    unfolding domain_of
    domain_lt = mod-lt q domains_some

    pub side_lt : side_of c q < 5
    unfolding side_of
    side_lt = mod-lt (q / domains c) (omega arith)

    pub router_lt : router_of c q < routers c
    unfolding router_of queues
    router_lt = div_below (q / domains c) 5 (routers c) (omega arith) (div_below q (domains c) (routers c * 5) domains_some h)

    pub queue_number_of : queue_number c (router_of c q) (side_of c q) (domain_of c q) ≡ q
    unfolding queue_number router_of side_of domain_of
    queue_number_of = ap (λ (x : ℕ). x * domains c + q % domains c) (div-add-mod' (q / domains c) 5) ∙ div-add-mod' q (domains c)
