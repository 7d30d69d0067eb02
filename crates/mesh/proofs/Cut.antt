-- The moves of the ports below n: a loop that makes moves one after the other has made those.
use Rattle.std.proofs.Common.{◌≡◌, ℕ, ◌+◌, ◌*◌, ◌/◌, ◌%◌, ◌<◌, ◌≤◌, Bool, true, false, cond, ◌&&◌, eqb, List, [], get_or, take, Some, None, Option, sym, refl, ap, ◌∙◌, ⊎_elim, add-zero, arith, is_some, unwrap_or, length}
use lib.Arith.{digits_div, digits_mod}
use Rattle.std.proofs.lemmas.List.{get_or_past, get_or-take, length-take}
use Rattle.std.proofs.lemmas.Nat.{div-add-mod', mod_below}
use Rattle.std.proofs.lemmas.Bool.{cases_lt, cases_Bool, true≢false, and_parts, and_from, eqb-true, eq-eqb, or_cases, or_left, or_right}
use Rattle.schedule.specs.declared.plan.Plan.{Plan}
use Rattle.mesh.specs.declared.moves.Move.{Move}
use Rattle.mesh.specs.Ports.{move_at, no_move, passes_at, across}
use Rattle.mesh.specs.After.{passing, taking, arriving, arriving_by, leaving}
use Rattle.mesh.specs.Orderly.{source}
use Rattle.mesh.proofs.Cases.{at_five, bool_same}
use Rattle.mesh.specs.Heads.{ports}

pub none_from : {X : Type 0} (o : Option X) → ((j : X) → o ≡ Some j → ⊥) → o ≡ None
none_from None h = refl
none_from (Some j) h = absurd (h j refl)

pub none_by : {X : Type 0} (o : Option X) → is_some o ≡ false → o ≡ None
none_by None e = refl
none_by (Some x) e = absurd (true≢false e)

pub some_by : {X : Type 0} (o : Option X) (d : X) → is_some o ≡ true → o ≡ Some (unwrap_or o d)
some_by None d e = absurd (true≢false (sym e))
some_by (Some x) d e = refl

-- whether a queue is left, by the ports that take from it
module _ (plan : Plan) (ns : List (Option Move)) where
  taken_at : (q c : ℕ) → c < 5
      → taking ns (q / plan.sizes.domains / 5 * 5 + c) (q / plan.sizes.domains % 5) (q % plan.sizes.domains) ≡ true →
      (j : ℕ) × ((passes_at ns j ≡ true) × (source plan ns j ≡ q))
  taken_at q c h e =
      let k = q / plan.sizes.domains in
      let j = k / 5 * 5 + c in
      let p = and_parts _ _ e in
      let o = and_parts _ _ p.0 in
      let w : (move_at ns j).winner ≡ k % 5 = eqb-true _ _ p.1 in
      let d : (move_at ns j).owner ≡ q % plan.sizes.domains = eqb-true _ _ o.1 in
      let r : j / 5 ≡ k / 5 = digits_div (k / 5) h in
      (j, (o.0, rw (r, w, d, div-add-mod' k 5) (div-add-mod' q plan.sizes.domains)))

  pub taken : (q : ℕ) → leaving plan ns q ≡ true → (j : ℕ) × ((passes_at ns j ≡ true) × (source plan ns j ≡ q))
  unfolding leaving
  taken q e =
      let r = q / plan.sizes.domains / 5 * 5 in
      ⊎_elim (λ u. ⊎_elim (λ v. ⊎_elim (λ w. ⊎_elim
      (λ x. taken_at q 0 (omega arith) (rw (add-zero r) x))
      (λ x. taken_at q 1 (omega arith) x) (or_cases _ _ w))
      (λ x. taken_at q 2 (omega arith) x) (or_cases _ _ v))
      (λ x. taken_at q 3 (omega arith) x) (or_cases _ _ u))
      (λ x. taken_at q 4 (omega arith) x) (or_cases _ _ e)

  leaves_at : (q c : ℕ) → c < 5
      → taking ns (q / plan.sizes.domains / 5 * 5 + c) (q / plan.sizes.domains % 5) (q % plan.sizes.domains) ≡ true
      → leaving plan ns q ≡ true
  unfolding leaving
  leaves_at q c h =
      let r = q / plan.sizes.domains / 5 * 5 in
      let P : ℕ → Type 0 = λ c. taking ns (r + c) (q / plan.sizes.domains % 5) (q % plan.sizes.domains) ≡ true
      → leaving plan ns q ≡ true in
      at_five P
      (λ x. or_left _ _ (or_left _ _ (or_left _ _ (or_left _ _ (rw (add-zero r) at x)))))
      (λ x. or_left _ _ (or_left _ _ (or_left _ _ (or_right _ _ x))))
      (λ x. or_left _ _ (or_left _ _ (or_right _ _ x)))
      (λ x. or_left _ _ (or_right _ _ x))
      (λ x. or_right _ _ x) c h

  pub leaves : (j q : ℕ) → passes_at ns j ≡ true → (move_at ns j).owner < plan.sizes.domains → (move_at ns j).winner < 5
      → source plan ns j ≡ q → leaving plan ns q ≡ true
  leaves j q p o w is =
      let D = plan.sizes.domains in
      let k : q / D ≡ j / 5 * 5 + (move_at ns j).winner = ap (λ n. n / D) (sym is) ∙ digits_div (j / 5 * 5 + (move_at ns j).winner) o in
      let d : q % D ≡ (move_at ns j).owner = ap (λ n. n % D) (sym is) ∙ digits_mod (j / 5 * 5 + (move_at ns j).winner) o in
      let r : q / D / 5 ≡ j / 5 = ap (λ n. n / 5) k ∙ digits_div (j / 5) w in
      let i : q / D % 5 ≡ (move_at ns j).winner = ap (λ n. n % 5) k ∙ digits_mod (j / 5) w in
      let all : taking ns j (move_at ns j).winner (move_at ns j).owner ≡ true =
      and_from _ _ (and_from _ _ p (eq-eqb _ _ refl)) (eq-eqb _ _ refl) in
      leaves_at q (j % 5) (mod_below j 5 (omega arith)) (rw (r, i, d, div-add-mod' j 5) all)

module _ (ms : List (Option Move)) where
  pub cut_in : (n j : ℕ) → j < n → get_or (take n ms) j None ≡ get_or ms j None
  cut_in n j h = get_or-take n ms j None h

  pub cut_past : (n j : ℕ) → n ≤ j → get_or (take n ms) j None ≡ None
  cut_past n j h = get_or_past (take n ms) j None (simp length-take (omega arith))

  pub cut_other : (k j : ℕ) → (j ≡ k → ⊥) → get_or (take (k + 1) ms) j None ≡ get_or (take k ms) j None
  cut_other k j ne = ⊎_elim
      (λ (h : j < k). let l : j < k + 1 = omega arith in cut_in (k + 1) j l ∙ sym (cut_in k j h))
      (λ (h : k ≤ j). let l : k + 1 ≤ j = omega arith in cut_past (k + 1) j l ∙ sym (cut_past k j h))
      (cases_lt j k)

  pub cut_here : (k : ℕ) → get_or (take (k + 1) ms) k None ≡ get_or ms k None
  cut_here k = cut_in (k + 1) k (omega arith)

  -- a move that is made
  pub cut_passes : (n j : ℕ) → passes_at (take n ms) j ≡ true → (j < n) × (get_or (take n ms) j None ≡ get_or ms j None)
  cut_passes n j e = ⊎_elim
      (λ (h : j < n). (h, cut_in n j h))
      (λ (h : n ≤ j). absurd (true≢false (sym e ∙ ap (λ (m : Option Move). is_some m) (cut_past n j h))))
      (cases_lt j n)

  -- a move that port k does not make changes nothing
  pub passing_same : (k j d : ℕ) → (j ≡ k → passes_at ms k ≡ true → (move_at ms k).owner ≡ d → ⊥)
      → passing (take (k + 1) ms) j d ≡ passing (take k ms) j d
  passing_same k j d off = bool_same _ _
      (λ e.
      let p = and_parts _ _ e in
      let c = cut_passes (k + 1) j p.0 in
      let at = c.1 in
      let ne : j ≡ k → ⊥ = λ s. off s (rw s at (rw at at p.0)) (rw s at (rw at at (eqb-true _ _ p.1))) in
      rw (← cut_other k j ne) e)
      (λ e.
      let p = and_parts _ _ e in
      let l = (cut_passes k j p.0).0 in
      let ne : j ≡ k → ⊥ = λ s. omega arith in
      rw (cut_other k j ne) e)

module _ (plan : Plan) (ms : List (Option Move)) (k : ℕ) where
  by_same : (d : ℕ) (o : Option ℕ) → (o ≡ Some k → passes_at ms k ≡ true → (move_at ms k).owner ≡ d → ⊥)
      → arriving_by (take (k + 1) ms) d o ≡ arriving_by (take k ms) d o
  by_same d None off = refl
  by_same d (Some j) off = ap (λ (b : Bool). cond b (Some j) None) (passing_same ms k j d (λ s. off (ap Some s)))

  pub arriving_same : (q : ℕ)
      → (across plan (q / plan.sizes.domains) ≡ Some k → passes_at ms k ≡ true → (move_at ms k).owner ≡ q % plan.sizes.domains
      → ⊥) →
      arriving plan (take (k + 1) ms) q ≡ arriving plan (take k ms) q
  unfolding arriving
  arriving_same q off = by_same (q % plan.sizes.domains) (across plan (q / plan.sizes.domains)) off

  pub arriving_here : (q : ℕ) → across plan (q / plan.sizes.domains) ≡ Some k → passes_at ms k ≡ true
      → (move_at ms k).owner ≡ q % plan.sizes.domains →
      arriving plan (take (k + 1) ms) q ≡ Some k
  unfolding arriving
  arriving_here q a p o =
      let at = cut_here ms k in
      let yes : passing (take (k + 1) ms) k (q % plan.sizes.domains) ≡ true = rw at (and_from _ _ p (eq-eqb _ _ o)) in
      rw a (rw yes refl)

  pub arriving_not : (q : ℕ) → across plan (q / plan.sizes.domains) ≡ Some k → arriving plan (take k ms) q ≡ None
  unfolding arriving
  arriving_not q a = let at = cut_past ms k k (omega arith) in rw a (rw at refl)

module _ (plan : Plan) (ms : List (Option Move)) where
  by_less : (n d : ℕ) (o : Option ℕ) → arriving_by ms d o ≡ None → arriving_by (take n ms) d o ≡ None
  by_less n d None e = refl
  by_less n d (Some j) e = ⊎_elim
      (λ (p : passing (take n ms) j d ≡ true).
      let c = (cut_passes ms n j (and_parts _ _ p).0).1 in
      ap (λ (m : Option Move). cond (is_some m && eqb (unwrap_or m no_move).owner d) (Some j) None) c ∙ e)
      (λ (p : passing (take n ms) j d ≡ false). rw p refl)
      (cases_Bool (passing (take n ms) j d))

  pub arriving_less : (n q : ℕ) → arriving plan ms q ≡ None → arriving plan (take n ms) q ≡ None
  unfolding arriving
  arriving_less n q e = by_less n (q % plan.sizes.domains) (across plan (q / plan.sizes.domains)) e

  -- before the first move
  by_none : (d : ℕ) (o : Option ℕ) → arriving_by [] d o ≡ None
  by_none d None = refl
  by_none d (Some j) = refl

  pub arriving_none : (q : ℕ) → arriving plan [] q ≡ None
  unfolding arriving
  arriving_none q = by_none (q % plan.sizes.domains) (across plan (q / plan.sizes.domains))

  pub leaving_none : (q : ℕ) → leaving plan [] q ≡ false
  unfolding leaving
  leaving_none q = refl

  -- after the last
  module _ (past : (j : ℕ) → ports plan ≤ j → get_or ms j None ≡ None) where
    pub cut_all : (j : ℕ) → get_or (take (ports plan) ms) j None ≡ get_or ms j None
    cut_all j = ⊎_elim (λ (h : j < ports plan). cut_in ms (ports plan) j h)
        (λ (h : ports plan ≤ j). cut_past ms (ports plan) j h ∙ sym (past j h)) (cases_lt j (ports plan))

    by_all : (d : ℕ) (o : Option ℕ) → arriving_by (take (ports plan) ms) d o ≡ arriving_by ms d o
    by_all d None = refl
    by_all d (Some j) = ap (λ (m : Option Move). cond (is_some m && eqb (unwrap_or m no_move).owner d) (Some j) None) (cut_all j)

    pub arriving_all : (q : ℕ) → arriving plan (take (ports plan) ms) q ≡ arriving plan ms q
    unfolding arriving
    arriving_all q = by_all (q % plan.sizes.domains) (across plan (q / plan.sizes.domains))

    taking_all : (j i d : ℕ) → taking (take (ports plan) ms) j i d ≡ taking ms j i d
    taking_all j i d =
        ap (λ (m : Option Move). (is_some m && eqb (unwrap_or m no_move).owner d) && eqb (unwrap_or m no_move).winner i) (cut_all j)

    pub leaving_all : (q : ℕ) → leaving plan (take (ports plan) ms) q ≡ leaving plan ms q
    unfolding leaving
    leaving_all q =
        let r = q / plan.sizes.domains / 5 * 5 in
        let i = q / plan.sizes.domains % 5 in
        let d = q % plan.sizes.domains in
        rw (taking_all r i d, taking_all (r + 1) i d, taking_all (r + 2) i d, taking_all (r + 3) i d, taking_all (r + 4) i d) refl

-- a table of the plan's ports alone has none past them
pub past_of : (plan : Plan) (ms : List (Option Move)) → length ms ≡ ports plan → (j : ℕ) → ports plan ≤ j → get_or ms j None ≡ None
past_of plan ms exact j h = get_or_past ms j None (rw exact h)
