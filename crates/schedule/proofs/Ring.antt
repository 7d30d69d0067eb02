-- A list of slots taken as a ring: what stands after slot k, up to slot k itself.
use Rattle.std.proofs.Common.{◌≡◌, ℕ, ◌+◌, ◌-◌, ◌%◌, ◌<◌, ◌≤◌, Bool, true, false, cond, ltb, eqb, List, ◌++◌, length, get_or, take, drop, Some, None, sym, refl, ap, ◌∙◌, subst, ⊎_elim, arith, length-append, length-drop}
use Rattle.std.specs.List.{position, position_or_len}
use Rattle.std.specs.Option.{unwrap_or}
use Rattle.std.proofs.lemmas.Nat.{mod-mul-add}
use Rattle.std.proofs.lemmas.Bool.{ltb-false, cases_lt}
use Rattle.std.proofs.lemmas.List.{get_or_append_left, get_or-append_right, get_or-drop, get_or-take, length-take-le}
use Rattle.std.proofs.lemmas.List.Sums.{prefix_len-le-length}
use Rattle.schedule.specs.Search.{first}
use Rattle.schedule.specs.Turns.{turn, until_next}
use Rattle.schedule.proofs.First.{first_place}

abbrev pub after : List ℕ → ℕ → List ℕ
after slots k = drop (k + 1) slots ++ take (k + 1) slots

length_after : (slots : List ℕ) (k : ℕ) → k < length slots → length (after slots k) ≡ length slots
length_after slots k l =
    let front = length-take-le (k + 1) slots (omega arith) in
    simp (length-append, length-drop) (omega arith)

after_turn : (slots : List ℕ) (k j : ℕ) → k < length slots → j < length slots → get_or (after slots k) j 0 ≡ turn slots (k + 1 + j)
after_turn slots k j l m = ⊎_elim before behind (cases_lt (k + 1 + j) (length slots))
  where
    before : k + 1 + j < length slots → get_or (after slots k) j 0 ≡ turn slots (k + 1 + j)
    before b =
        let e : (k + 1 + j) % length slots ≡ k + 1 + j = ap (λ y. y % length slots) (omega arith) ∙ mod-mul-add 0 (length slots) (k + 1 + j) b in
        get_or_append_left (drop (k + 1) slots) (take (k + 1) slots) 0 j (omega (arith, length-drop (k + 1) slots))
        ∙ (get_or-drop (k + 1) slots j 0 ∙ ap (λ i. get_or slots i 0) (sym e))

    behind : length slots ≤ k + 1 + j → get_or (after slots k) j 0 ≡ turn slots (k + 1 + j)
    behind b =
        let i = k + 1 + j - length slots in
        let e : (k + 1 + j) % length slots ≡ i = ap (λ y. y % length slots) (omega arith) ∙ mod-mul-add 1 (length slots) i (omega arith) in
        let d : length (drop (k + 1) slots) ≡ length slots - (k + 1) = length-drop (k + 1) slots in
        get_or-append_right (drop (k + 1) slots) (take (k + 1) slots) (length slots - (k + 1)) j 0 d (omega arith)
        ∙ (get_or-take (k + 1) slots (j - (length slots - (k + 1))) 0 (omega arith)
        ∙ ap (λ q. get_or slots q 0) (let f : j - (length slots - (k + 1)) ≡ i = omega arith in f ∙ sym e))

-- a place, or the length where there is none
place_or_length : (p : ℕ → Bool) (xs : List ℕ) → unwrap_or (position p xs) (length xs) ≡ position_or_len p xs
place_or_length p xs = go (ltb (position_or_len p xs) (length xs)) refl
  where
    go : (b : Bool) → ltb (position_or_len p xs) (length xs) ≡ b
        → unwrap_or (cond b (Some (position_or_len p xs)) None) (length xs) ≡ position_or_len p xs
    go true e = refl
    go false e = let l = ltb-false (position_or_len p xs) (length xs) e in omega (arith, prefix_len-le-length {X = ℕ})

-- the cycles to a domain's next slot, by the slots that are passed over
pub until_passed : (slots : List ℕ) (domain k : ℕ) → k < length slots
    → unwrap_or (position (λ named. eqb named domain) (after slots k)) (length slots) + 1 ≡ until_next slots domain k
until_passed slots domain k l =
    let named : ℕ → Bool = λ slot. eqb slot domain in
    let others = after slots k in
    let long = length_after slots k l in
    let at = first_place named (λ j. turn slots (k + 1 + j)) others (λ j m. after_turn slots k j l (omega arith)) in
    let within : first (λ j. eqb (turn slots (k + 1 + j)) domain) (length slots) ≡ position_or_len named others =
    subst (λ n. first (λ j. eqb (turn slots (k + 1 + j)) domain) n ≡ position_or_len named others) long at in
    let place : unwrap_or (position named others) (length slots) ≡ position_or_len named others =
    subst (λ n. unwrap_or (position named others) n ≡ position_or_len named others) long (place_or_length named others) in
    omega arith
