-- The kept list of five sides lists every side, and so does the next one, which fits its bits.
use Rattle.std.specs.Prelude.{◌≡◌, ℕ, zero, suc, ◌/◌, ◌^◌, ◌<◌, true, List, [], ◌∷◌, ◌++◌, length, ◌==◌, refl}
use Rattle.std.proofs.Common.{subst, pow-suc, arith}
use Rattle.std.proofs.lemmas.Bool.{cond_both, eqb-true}
use Rattle.rules.specs.Arbiters.{Digits, all_sides, kept_order, lists_all, moved_to_end}
use Rattle.rules.specs.Arbiters.{order_list, packed, unpacked}

-- every number in a list that is read from a word has three bits, and a list of such numbers fits three bits for each
pub unpacked_digits : (n number : ℕ) → Digits (unpacked n number)
unpacked_digits zero number place = omega arith
unpacked_digits (suc n) number zero = omega arith
unpacked_digits (suc n) number (suc place) = unpacked_digits n (number / 8) place

by_kept : (P : List ℕ → Type 0) (kept : ℕ) → (lists_all (unpacked 5 kept) all_sides ≡ true → P (unpacked 5 kept)) → P all_sides
    → P (kept_order kept)
by_kept P kept listed in_order = cond_both (lists_all (unpacked 5 kept) all_sides) (unpacked 5 kept) all_sides P listed (λ _. in_order)

pub kept_digits : (kept : ℕ) → Digits (kept_order kept)
kept_digits kept = by_kept Digits kept (λ _. unpacked_digits 5 kept) (unpacked_digits 5 (packed all_sides))

kept_length : (kept : ℕ) → length (kept_order kept) ≡ 5
kept_length kept = by_kept (λ order. length order ≡ 5) kept (λ _. refl) refl

pub kept_is_whole : (kept : ℕ) → lists_all (kept_order kept) all_sides ≡ true
kept_is_whole kept = by_kept (λ order. lists_all order all_sides ≡ true) kept (λ whole. whole) refl

pushed_fits : (order : List ℕ) (side : ℕ) → Digits order → side < 8 → packed (order ++ (side ∷ [])) < 8 ^ suc (length order)
pushed_fits [] side digits small = omega arith
pushed_fits (first ∷ rest) side digits small =
    omega (arith, digits 0, pushed_fits rest side (λ place. digits (suc place)) small, pow-suc 8 (suc (length rest)))

moved_fits : (side : ℕ) (order : List ℕ) → Digits order → packed (moved_to_end side order) < 8 ^ length order
moved_fits side [] digits = omega arith
moved_fits side (first ∷ rest) digits =
    let others : Digits rest = λ place. digits (suc place) in
    cond_both (first == side) (rest ++ (side ∷ [])) (first ∷ moved_to_end side rest) (λ order. packed order < 8 ^ suc (length rest))
    (λ here. pushed_fits rest side others (subst (λ s. s < 8) (eqb-true first side here) (digits 0)))
    (λ _. omega (arith, digits 0, moved_fits side rest others, pow-suc 8 (length rest)))

pub next_fits : (kept winner : ℕ) → order_list.next kept winner < 2 ^ 15
next_fits kept winner =
    subst (λ n. packed (moved_to_end winner (kept_order kept)) < 8 ^ n) (kept_length kept)
    (moved_fits winner (kept_order kept) (kept_digits kept))
