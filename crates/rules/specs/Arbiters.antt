-- Arbiters: which of the sides that ask for a port wins it, and which word the arbiter keeps for its next choice.
use Rattle.std.specs.Prelude.{◌≡◌, ℕ, zero, suc, ◌+◌, ◌*◌, ◌/◌, ◌%◌, ◌^◌, ◌<◌, ◌≤◌, Bool, true, cond, ◌&&◌, List, [], ◌∷◌, ◌++◌, take, drop, ◌==◌, nat_lt, slice_index}
use Rattle.std.specs.List.{list_all, list_any}

-- a set of sides is a number that has bit i for side i
abbrev pub asks : ℕ → ℕ → Bool
asks sides side = sides / 2 ^ side % 2 == 1

-- some side asks, and only sides from 0 to 4 do
abbrev pub contested : ℕ → Bool
contested sides = nat_lt 0 sides && nat_lt sides 32

-- what every arbiter keeps to, given how many low bits of its word it keeps, and the winner and next word that it chooses
pub record Arbitrates (bits : ℕ) (choose : ℕ → ℕ → ℕ × ℕ) : Type 0 where
  pub narrow : bits ≤ 32
  -- the winner is one of the sides that ask
  pub winner_asks : (word sides : ℕ) → 0 < sides → sides < 32 → ((choose word sides).0 < 5) × (asks sides (choose word sides).0 ≡ true)
  -- the higher bits of a word do not matter, and the next word has none
  pub low_bits_matter : (word sides : ℕ) → choose word sides ≡ choose (word % 2 ^ bits) sides
  pub next_is_low : (word sides : ℕ) → (choose word sides).1 < 2 ^ bits
  -- without a side, or with one above 4, there is no winner and the kept bits stay as they are
  pub none_asks : (word : ℕ) → choose word 0 ≡ (5, word % 2 ^ bits)
  pub beyond_sides : (word sides : ℕ) → 31 < sides → choose word sides ≡ (5, word % 2 ^ bits)

-- a priority: the order in which the sides are looked at and what is kept after a winner, both given what is kept now
pub record Priority : Type 0 where
  pub bits : ℕ
  pub order : ℕ → List ℕ
  pub next : ℕ → ℕ → ℕ

abbrev pub first_asking : ℕ → List ℕ → ℕ
first_asking sides [] = 5
first_asking sides (side ∷ rest) = cond (asks sides side) side (first_asking sides rest)

-- the choice by a priority: the first side in its order that asks
abbrev pub grant : Priority → ℕ → ℕ → ℕ × ℕ
grant priority word sides =
    let kept : ℕ = word % 2 ^ priority.bits in
    let winner : ℕ = first_asking sides (priority.order kept) in
    cond {A = ℕ × ℕ} (contested sides) (winner, priority.next kept winner) (5, kept)

abbrev pub all_sides : List ℕ
all_sides = 0 ∷ 1 ∷ 2 ∷ 3 ∷ 4 ∷ []

-- Fixed priority: the lowest side first, always.
abbrev pub fixed : Priority
fixed = record { bits = 0; order = λ _. all_sides; next = λ _ _. 0 }

-- upward from one side, with 0 after 4
abbrev pub upward_from : ℕ → List ℕ
upward_from side = drop side all_sides ++ take side all_sides

-- a number above 4 is read as side 0
abbrev pub start : ℕ → ℕ
start kept = cond (nat_lt kept 5) kept 0

-- Rotating priority: upward from the kept side; next time from the side after the winner.
abbrev pub rotating : Priority
rotating = record { bits = 3; order = λ kept. upward_from (start kept); next = λ _ winner. (winner + 1) % 5 }

-- a list in a number: three bits for each side, the first side in the lowest bits
abbrev pub packed : List ℕ → ℕ
packed [] = 0
packed (side ∷ rest) = side + 8 * packed rest

abbrev pub unpacked : ℕ → ℕ → List ℕ
unpacked zero number = []
unpacked (suc length) number = number % 8 ∷ unpacked length (number / 8)

-- every number in the list has three bits
abbrev pub Digits : List ℕ → Type 0
Digits order = (place : ℕ) → slice_index order place < 8

abbrev pub lists : List ℕ → ℕ → Bool
lists order side = list_any (λ listed. listed == side) order

abbrev pub lists_all : List ℕ → List ℕ → Bool
lists_all order sides = list_all (lists order) sides

-- the list with one side moved behind all others
abbrev pub moved_to_end : ℕ → List ℕ → List ℕ
moved_to_end side [] = []
moved_to_end side (first ∷ rest) = cond (first == side) (rest ++ (side ∷ [])) (first ∷ moved_to_end side rest)

-- the kept list of five, or 0 to 4 in turn where it is no arrangement of them: where it does not list all five
abbrev pub kept_order : ℕ → List ℕ
kept_order kept = cond (lists_all (unpacked 5 kept) all_sides) (unpacked 5 kept) all_sides

-- Least recently granted: the sides in the kept order; the winner moves to its end.
abbrev pub order_list : Priority
order_list = record { bits = 15; order = kept_order; next = λ kept winner. packed (moved_to_end winner (kept_order kept)) }
