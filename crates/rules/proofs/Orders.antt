-- Lists of five sides: how they are searched for the first that asks, and tested for holding every side.
use Rattle.std.specs.Prelude.{◌≡◌, ℕ, ◌*◌, ◌/◌, ◌%◌, ◌^◌, ◌<◌, true, false, ◌&&◌, ◌||◌, List, [], ◌∷◌, ◌++◌, length, ◌==◌, bit_and, bit_or, nat_eq, slice_index, refl}
use Rattle.std.proofs.Common.{sym, ap, subst, ◌∙◌, ⊎_elim, arith}
use Rattle.std.proofs.Math.Bool.{or_assoc, or-false}
use Rattle.std.specs.List.{AllByRecursion}
use Rattle.std.proofs.lemmas.Nat.{or_mod, or_shr, and_mask}
use Rattle.std.proofs.lemmas.Bool.{both_ways, cases_Bool, cond-true, cond-false, eq-eqb, ne_eqb}
use Rattle.std.proofs.lemmas.Bool.Decides.{nat_tests}
use Rattle.rules.specs.Arbiters.{asks, first_asking, lists, moved_to_end}
use Rattle.rules.proofs.Everywhere.{agree_everywhere}

-- what holds of every five sides holds of a list of that length
pub by_five : (P : List ℕ → Type 0) → ((a b c d e : ℕ) → P (a ∷ b ∷ c ∷ d ∷ e ∷ [])) → (order : List ℕ) → length order ≡ 5 → P order
by_five P each [] l = absurd (omega arith)
by_five P each (a ∷ []) l = absurd (omega arith)
by_five P each (a ∷ b ∷ []) l = absurd (omega arith)
by_five P each (a ∷ b ∷ c ∷ []) l = absurd (omega arith)
by_five P each (a ∷ b ∷ c ∷ d ∷ []) l = absurd (omega arith)
by_five P each (a ∷ b ∷ c ∷ d ∷ e ∷ []) l = each a b c d e
by_five P each (a ∷ b ∷ c ∷ d ∷ e ∷ f ∷ rest) l = absurd (omega arith)

abbrev in_turn : List ℕ → List ℕ
in_turn order = slice_index order 0 ∷ slice_index order 1 ∷ slice_index order 2 ∷ slice_index order 3 ∷ slice_index order 4 ∷ []

pub five : (order : List ℕ) → length order ≡ 5 → order ≡ in_turn order
five = by_five (λ order. order ≡ in_turn order) (λ a b c d e. refl)

-- the first that asks, after some that do not, wins and goes to the end
module _ (sides : ℕ) where
  abbrev pub Silent : List ℕ → Type 0
  Silent = AllByRecursion (λ side. false ≡ asks sides side)

  first_wins : (before : List ℕ) (side : ℕ) (after : List ℕ) → Silent before → true ≡ asks sides side
      → first_asking sides (before ++ (side ∷ after)) ≡ side
  first_wins [] side after silent asking = cond-true (asks sides side) side _ (sym asking)
  first_wins (first ∷ before) side after silent asking =
      cond-false (asks sides first) first _ (sym silent.0) ∙ first_wins before side after silent.1 asking

  winner_goes_last : (before : List ℕ) (side : ℕ) (after : List ℕ) → Silent before → true ≡ asks sides side
      → moved_to_end side (before ++ (side ∷ after)) ≡ before ++ (after ++ (side ∷ []))
  winner_goes_last [] side after silent asking = cond-true (side == side) _ _ (eq-eqb side side refl)
  winner_goes_last (first ∷ before) side after silent asking =
      let other : first ≡ side → ⊥ = λ same. both_ways (asks sides first) (sym silent.0) (rw same (sym asking)) in
      cond-false (first == side) _ _ (ne_eqb first side other)
      ∙ ap (λ l. first ∷ l) (winner_goes_last before side after silent.1 asking)

  abbrev chosen : List ℕ → ℕ × List ℕ
  chosen order = (first_asking sides order, moved_to_end (first_asking sides order) order)

  pub goes_last : (order before : List ℕ) (side : ℕ) (after : List ℕ) → order ≡ before ++ (side ∷ after) → Silent before
      → true ≡ asks sides side → (side, before ++ (after ++ (side ∷ []))) ≡ chosen order
  goes_last order before side after parts silent asking =
      rw (parts, first_wins before side after silent asking, winner_goes_last before side after silent asking)

  -- where some side wins and no earlier one asks, the last does
  last_asks : (before : List ℕ) (side : ℕ) → Silent before → first_asking sides (before ++ (side ∷ [])) < 5 → true ≡ asks sides side
  last_asks [] side silent wins =
      ⊎_elim sym
      (λ (silent_too : asks sides side ≡ false).
      absurd (omega (arith, subst (λ n. n < 5) (cond-false (asks sides side) side 5 silent_too) wins)))
      (cases_Bool (asks sides side))
  last_asks (first ∷ before) side silent wins =
      last_asks before side silent.1 (subst (λ n. n < 5) (cond-false (asks sides first) first _ (sym silent.0)) wins)

  pub last_stays : (order before : List ℕ) (side : ℕ) → order ≡ before ++ (side ∷ []) → Silent before → first_asking sides order < 5
      → (side, order) ≡ chosen order
  last_stays order before side parts silent wins =
      ap (λ l. (side, l)) parts
      ∙ goes_last order before side [] parts silent (last_asks before side silent (subst (λ l. first_asking sides l < 5) parts wins))

-- a union of sets has the sides of both
either_bit : (x y : ℕ) → x < 2 → y < 2 → (bit_or x y == 1) ≡ (x == 1 || y == 1)
either_bit = agree_everywhere (λ x y. nat_eq (bit_or x y) 1) (λ x y. (x == 1) || y == 1) 2 2 refl

asks_either : (a b side : ℕ) → asks (bit_or a b) side ≡ (asks a side || asks b side)
asks_either a b side =
    ap (λ n. nat_eq (n % 2) 1) (or_shr a b side) ∙ ap (λ n. nat_eq n 1) (or_mod (a / 2 ^ side) (b / 2 ^ side) 1)
    ∙ either_bit (a / 2 ^ side % 2) (b / 2 ^ side % 2) (omega arith) (omega arith)

asks_one : (a side : ℕ) → a < 8 → side < 5 → asks (1 * 2 ^ a % 256) side ≡ (a == side)
asks_one = agree_everywhere (λ a side. asks (1 * 2 ^ a % 256) side) nat_eq 8 5 refl

lists_push : (order : List ℕ) (a side : ℕ) → lists (order ++ (a ∷ [])) side ≡ (lists order side || a == side)
lists_push [] a side = or-false (a == side)
lists_push (first ∷ rest) a side =
    ap (λ b. (first == side) || b) (lists_push rest a side) ∙ sym (or_assoc (first == side) (lists rest side) (a == side))

-- the set of the listed sides, after one more
pub one_more_listed : (set : ℕ) (before : List ℕ) (a : ℕ) → a < 8 → ((side : ℕ) → side < 5 → asks set side ≡ lists before side)
    → (side : ℕ) → side < 5 → asks (bit_or set (1 * 2 ^ a % 256)) side ≡ lists (before ++ (a ∷ [])) side
one_more_listed set before a small so_far side below =
    asks_either set (1 * 2 ^ a % 256) side ∙ rw (so_far side below, asks_one a side small below) (sym (lists_push before a side))

pub all_five_ask : (set : ℕ) → ((bit_and set 31) == 31) ≡ (asks set 0 && (asks set 1 && (asks set 2 && (asks set 3 && (asks set 4 && true)))))
all_five_ask set = rw (and_mask set 5) (grind (arith, nat_tests))
