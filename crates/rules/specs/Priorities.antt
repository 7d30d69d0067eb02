-- An arbiter that grants by a priority keeps to the laws, if its order lists every side.
use Rattle.std.specs.Prelude.{◌≡◌, ℕ, ◌/◌, ◌%◌, ◌^◌, ◌<◌, ◌≤◌, true, false, ◌&&◌, List, [], ◌∷◌, nat_lt, refl}
use Rattle.std.proofs.Common.{sym, ap, subst, ◌∙◌, ⊎_elim, lt_of_lt_of_le, arith, pow_mono}
use Rattle.std.proofs.Math.Nat.{mod-mod, div-eq_of_lt}
use Rattle.std.proofs.lemmas.Nat.{pow_pos, mod_below}
use Rattle.std.proofs.lemmas.Bool.{and_from, and_parts, and_right, cases_lt, cond_both, cond-false, cond-true, eqb-true, false≢true, le-ltb, lt-ltb, or_cases}
use Rattle.std.proofs.lemmas.Bool.Decides.{nat_tests}
use Rattle.rules.specs.Arbiters.{Arbitrates, Priority, all_sides, asks, contested, first_asking, grant, lists, lists_all}
use Rattle.rules.specs.Contested.{at_each_set, few_sides}

-- where a listed side asks, so does the first asking one
first_asks : (sides : ℕ) (order : List ℕ) (side : ℕ) → lists order side ≡ true → asks sides side ≡ true
    → asks sides (first_asking sides order) ≡ true
first_asks sides [] side listed asking = absurd (false≢true listed)
first_asks sides (first ∷ rest) side listed asking = grind (arith, nat_tests, or_cases, cond-true, cond-false, first_asks sides rest side)

-- a list that lists all of another lists each member of it
listed_too : (order other : List ℕ) (side : ℕ) → lists_all order other ≡ true → lists other side ≡ true → lists order side ≡ true
listed_too order [] side all listed = absurd (false≢true listed)
listed_too order (first ∷ rest) side all listed = grind (arith, nat_tests, and_parts, or_cases, listed_too order rest side)

-- the lowest side that asks is found in every contested set
some_side_asks : (sides : ℕ) → contested sides ≡ true →
    (lists all_sides (first_asking sides all_sides) && asks sides (first_asking sides all_sides)) ≡ true
some_side_asks =
    at_each_set (λ sides. lists all_sides (first_asking sides all_sides) && asks sides (first_asking sides all_sides)) refl

-- a side that asks in a contested set is one of the five
asking_below : (sides side : ℕ) → sides < 32 → asks sides side ≡ true → side < 5
asking_below sides side few asking =
    ⊎_elim (λ (l : side < 5). l)
    (λ (l : 5 ≤ side).
    let none : sides / 2 ^ side ≡ 0 = div-eq_of_lt (lt_of_lt_of_le few (pow_mono l)) in
    let one : sides / 2 ^ side % 2 ≡ 1 = eqb-true (sides / 2 ^ side % 2) 1 asking in
    omega arith)
    (cases_lt side 5)

-- an order that lists every side has a winner in every contested set
pub has_winner : (sides : ℕ) (order : List ℕ) → contested sides ≡ true → lists_all order all_sides ≡ true
    → (first_asking sides order < 5) × (asks sides (first_asking sides order) ≡ true)
has_winner sides order few whole =
    let lowest = first_asking sides all_sides in
    let found_one = and_parts (lists all_sides lowest) (asks sides lowest) (some_side_asks sides few) in
    let asking = first_asks sides order lowest (listed_too order all_sides lowest whole found_one.0) found_one.1 in
    (asking_below sides (first_asking sides order) (few_sides sides few) asking, asking)

-- the grant in a contested set, and in any other
module _ (p : Priority) (word sides : ℕ) where
  abbrev kept : ℕ
  kept = word % 2 ^ p.bits

  pub granted : (winner : ℕ) → contested sides ≡ true → winner ≡ first_asking sides (p.order kept)
      → (winner, p.next kept winner) ≡ grant p word sides
  granted winner few wins = ap (λ w. (w, p.next kept w)) wins ∙ sym (cond-true {A = ℕ × ℕ} (contested sides) _ _ few)

  not_granted : contested sides ≡ false → grant p word sides ≡ (5, kept)
  not_granted = cond-false {A = ℕ × ℕ} (contested sides) _ _

-- the laws of an arbiter, from what its priority shows
pub arbitrates : (p : Priority) → p.bits ≤ 32 → ((kept : ℕ) → lists_all (p.order kept) all_sides ≡ true)
    → ((kept winner : ℕ) → p.next kept winner < 2 ^ p.bits) → Arbitrates p.bits (grant p)
arbitrates p narrow whole low = record {
  narrow = narrow;
  winner_asks = λ word sides some few.
      let both = and_from (nat_lt 0 sides) (nat_lt sides 32) (lt-ltb 0 sides some) (lt-ltb sides 32 few) in
      let order = p.order (word % 2 ^ p.bits) in
      subst (λ (winner : ℕ × ℕ). (winner.0 < 5) × (asks sides winner.0 ≡ true))
      (granted p word sides (first_asking sides order) both refl) (has_winner sides order both (whole (word % 2 ^ p.bits)));
  low_bits_matter = λ word sides. rw (mod-mod word (2 ^ p.bits));
  next_is_low = λ word sides.
      cond_both {A = ℕ × ℕ} (contested sides) _ _ (λ g. g.1 < 2 ^ p.bits) (λ _. low _ _)
      (λ _. mod_below word (2 ^ p.bits) (pow_pos p.bits));
  none_asks = λ word. refl;
  beyond_sides = λ word sides many. not_granted p word sides (and_right (nat_lt 0 sides) (nat_lt sides 32) (le-ltb sides 32 many));
}
