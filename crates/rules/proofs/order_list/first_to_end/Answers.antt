use Rattle.std.proofs.Common.{rules, ◌≡◌, ◌<◌, arith, ℕ, suc, Some, length, get_or, List, [], ◌∷◌, ◌++◌, cond, true, false, ◌==◌, ◌+◌, ◌≤◌, refl, sym, subst, ap, ◌∙◌, ⊎_elim}
use Rattle.std.specs.Option.{unwrap_or}
use Rattle.std.specs.List.{position_or_len, remove}
use Rattle.std.proofs.lemmas.Bool.{both_ways, cases_lt, cases_Bool, cond-true, cond-false, eq-eqb, lt-ltb, ne_eqb}
use Rattle.std.proofs.lemmas.List.{get_or_default, length-append, same_lists}
use Rattle.std.proofs.lemmas.List.Edits.{get_or-remove_above, get_or-remove_below, length-remove}
use Rattle.std.proofs.lemmas.Grind.{common_steps}
use Rattle.std.proofs.lemmas.Iterator.{YieldsList-from_slice}
use Rattle.std.proofs.lemmas.Iterator.Adapters.{serves_from_places}
use Rattle.std.proofs.lemmas.Iterator.Search.{position_from_yields_List}
use Rattle.std.specs.Fn.{Called}
use Rattle.std.specs.Array.{IsFromFnResultFrom}
use Rattle.std.specs.Prelude.{nat_lt, zero}
use denote.Param.Members.{Mut}
use borrow.Author.Tests.{tests}
use Rattle.rules.specs.Arbiters.{asks, first_asking, moved_to_end}
use Rattle.rules.proofs.order_list.first_to_end.Goals as goal

-- where the first side that asks stands in an order, and what is left when it goes to the end
record Found (sides : ℕ) (order : List ℕ) : Type 0 where
  within : position_or_len (asks sides) order < length order
  there : get_or order (position_or_len (asks sides) order) 0 ≡ first_asking sides order
  asking : asks sides (first_asking sides order) ≡ true
  moved : remove order (position_or_len (asks sides) order) ++ (first_asking sides order ∷ []) ≡ moved_to_end (first_asking sides order) order

found : (sides : ℕ) (order : List ℕ) → first_asking sides order < 5 → Found sides order
found sides [] wins = absurd (omega arith)
found sides (first ∷ rest) wins =
    ⊎_elim
    (λ (e : asks sides first ≡ true). record {
      within = grind (arith, common_steps);
      there = grind (arith, common_steps, cond-true);
      asking = grind (arith, common_steps, cond-true);
      moved = rw e (sym (cond-true (first == first) _ _ (eq-eqb first first refl)));
    })
    (λ (e : asks sides first ≡ false).
    let later : first_asking sides (first ∷ rest) ≡ first_asking sides rest = cond-false (asks sides first) _ _ e in
    let next : position_or_len (asks sides) (first ∷ rest) ≡ suc (position_or_len (asks sides) rest) = rw e (omega arith) in
    let in_rest = found sides rest (omega (arith, later)) in
    let other : first ≡ first_asking sides rest → ⊥ = λ same. both_ways (asks sides first) e (rw same in_rest.asking) in
    record {
      within = omega (arith, next, in_rest.within);
      there = rw (next, later) in_rest.there;
      asking = rw later in_rest.asking;
      moved = rw next (subst (λ w. remove (first ∷ rest) (suc (position_or_len (asks sides) rest)) ++ (w ∷ []) ≡ moved_to_end w (first ∷ rest)) (sym later)
          (ap (λ l. first ∷ l) in_rest.moved ∙ sym (cond-false (first == first_asking sides rest) _ _ (ne_eqb first _ other))));
    })
    (cases_Bool (asks sides first))

-- what `from_fn` makes by a closure that stays as it is
made : {F : Type 0} (g : Mut F (ℕ × Unit {0}) ℕ) (f : F) (h : ℕ → ℕ) → ((i y : ℕ) (q : F) → Called g f (i, tt) y q → (q ≡ f) × (y ≡ h i))
    → (ys : List ℕ) (i n : ℕ) → IsFromFnResultFrom g f ys i n → (k : ℕ) → i ≤ k → k < i + n → get_or ys k 0 ≡ h k
made g f h calls ys i zero each k from below = absurd (omega arith)
made g f h calls ys i (suc n) (q, y, here, called, rest) k from below =
    let one = calls i y q called in
    ⊎_elim
    (λ (e : k < i + 1). let same : k ≡ i = omega arith in rw same (here.1 0 ∙ one.1))
    (λ (later : i + 1 ≤ k). made g f h calls ys (i + 1) n (subst (λ p. IsFromFnResultFrom g p ys (i + 1) n) one.0 rest) k later (omega arith))
    (cases_lt k (i + 1))

-- each later side moves up by one place, and the one at the place goes to the end
closed_up : (order after : List ℕ) (place : ℕ) → length order ≡ 5 → length after ≡ 5 → place < 5
    → ((k : ℕ) → 0 ≤ k → k < 5 → get_or after k 0 ≡ cond (nat_lt k place) (get_or order k 0) (cond (nat_lt k 4) (get_or order (k + 1) 0) (get_or order place 0)))
    → after ≡ remove order place ++ (get_or order place 0 ∷ [])
closed_up order after place long as_long within each =
    let shorter : length (remove order place) ≡ 4 = omega (arith, length-remove order place (omega arith)) in
    same_lists _ _ (omega (arith, length-append (remove order place) (get_or order place 0 ∷ [])))
    (λ k d below. let here = each k (omega arith) (omega arith) in
    grind (arith, common_steps, get_or-remove_below, get_or-remove_above))

pub position-requires-clause-callable : goal.position-requires-clause-callable
position-requires-clause-callable c =
    serves_from_places (YieldsList-from_slice c.args.order cc) (λ x q k. search rules) (λ x k below at.
    omega (arith, at, get_or_default c.args.order k x.now 0 below, c.requires.0 k))

pub returns : goal.returns
returns c =
    let order = c.args.order in
    let place = c.unwrap_or-place.result in
    let first_one = found c.args.sides order c.requires.1 in
    let position_is : c.position.result ≡ Some (position_or_len (asks c.args.sides) order) =
    position_from_yields_List (asks c.args.sides) _ _ _ c.position.ensures.ran (YieldsList-from_slice order cc) (λ x b q k. search rules)
    ∙ cond-true _ _ _ (lt-ltb _ _ first_one.within) in
    let place_is : place ≡ position_or_len (asks c.args.sides) order = c.unwrap_or-place.ensures ∙ ap (λ o. unwrap_or o 4) position_is in
    let moved_up = closed_up order c.from_fn.result place (omega arith) (omega arith) (omega (arith, place_is, first_one.within))
    (made _ _ _ (λ i y q k. search (rules, tests)) c.from_fn.result 0 5 c.from_fn.ensures.items.each) in
    rw (moved_up, place_is, first_one.there, first_one.moved) refl
