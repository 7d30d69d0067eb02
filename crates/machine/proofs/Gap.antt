-- A domain's turn at a port comes within its longest gap, and carries on to the neighbour with the wave.
use Rattle.std.proofs.Common.{◌≡◌, ℕ, zero, suc, ◌+◌, ◌-◌, ◌%◌, ◌<◌, ◌≤◌, Bool, true, eqb, List, [], ◌∷◌, length, get_or, sym, ap, ◌∙◌, ⊎_elim, mod-lt, mod-eq_of_lt, arith}
use native.Mathlib.Nat.{add-mod_right, mod-add-mod, add-mod-mod, mod-mod}
use Rattle.std.proofs.lemmas.Bool.{cond_both, cond-true, eqb-true, eq-eqb, cases_lt}
use Rattle.schedule.specs.Search.{first, largest}
use Rattle.schedule.specs.Timetable.{offset}
use Rattle.schedule.specs.Turns.{turn, until_next, gap_from, gap}
use Rattle.machine.specs.Machine.{Machine, domains, hop, routers, owner, beyond}
use Rattle.machine.proofs.Laws.{Timed}

-- what the search finds passes, and nothing before it does
first_passes : (p : ℕ → Bool) (n : ℕ) → first p n < n → p (first p n) ≡ true
first_passes p zero h = absurd (omega arith)
first_passes p (suc n) h = grind (arith, first_passes p n)

first_below : (p : ℕ → Bool) (n j : ℕ) → j < n → p j ≡ true → first p n ≤ j
first_below p zero j l h = absurd (omega arith)
first_below p (suc n) j l h = grind (arith, first_below p n j)

pub found : (p : ℕ → Bool) (n j : ℕ) → j < n → p j ≡ true → (p (first p n) ≡ true) × (first p n ≤ j)
found p n j l h = let b = first_below p n j l h in (first_passes p n (omega arith), b)

largest_above : (f : ℕ → ℕ) (n k : ℕ) → k < n → f k ≤ largest f n
largest_above f zero k h = absurd (omega arith)
largest_above f (suc n) k h = grind (arith, largest_above f n k)

largest_within : (f : ℕ → ℕ) (n top : ℕ) → ((k : ℕ) → k < n → f k ≤ top) → largest f n ≤ top
largest_within f zero top h = omega arith
largest_within f (suc n) top h = omega (arith, largest_within f n top (λ k l. h k (omega arith)), h n (omega arith))

module _ (slots : List ℕ) (d : ℕ) (some : 0 < length slots) where
  turn_round : (x : ℕ) → turn slots (x + length slots) ≡ turn slots x
  turn_round x = ap (λ (y : ℕ). get_or slots y 0) (add-mod_right x (length slots))

  turn_ring : (x n : ℕ) → turn slots (x % length slots + n) ≡ turn slots (x + n)
  turn_ring x n = ap (λ (y : ℕ). get_or slots y 0) (mod-add-mod x (length slots) n)

  -- from a slot of the domain's own the next is no farther than once round
  next_found : (k : ℕ) → turn slots k ≡ d
      → (turn slots (k + until_next slots d k) ≡ d) × (until_next slots d k ≤ length slots)
  next_found k h =
      let t : ℕ = length slots in
      let p : ℕ → Bool = λ j. eqb (turn slots (k + 1 + j)) d in
      let round : turn slots (k + 1 + (t - 1)) ≡ d = ap (turn slots) (omega arith) ∙ (turn_round k ∙ h) in
      let f = found p t (t - 1) (omega arith) (eq-eqb _ _ round) in
      (ap (turn slots) (omega arith) ∙ eqb-true _ _ f.0, omega (arith, f.1))

  gap_short : gap slots d ≤ length slots
  gap_short = largest_within (gap_from slots d) (length slots) (length slots) (λ k l.
      cond_both (eqb (get_or slots k 0) d) _ _ (λ (x : ℕ). x ≤ length slots)
      (λ e. (next_found k (ap (λ (y : ℕ). get_or slots y 0) (mod-eq_of_lt l) ∙ eqb-true _ _ e)).1) (λ _. omega arith))

  -- from a turn to the next
  next_turn : (k : ℕ) → turn slots k ≡ d → (n : ℕ) × (0 < n) × (n ≤ gap slots d) × (turn slots (k + n) ≡ d)
  next_turn k h =
      let t : ℕ = length slots in
      let a : ℕ = k % t in
      let low : a < t = mod-lt k some in
      let own : turn slots a ≡ d = ap (λ (y : ℕ). get_or slots y 0) (mod-mod k t) ∙ h in
      let is : gap_from slots d a ≡ until_next slots d a = cond-true _ _ _ (eq-eqb _ _ h) in
      let le : gap_from slots d a ≤ gap slots d = largest_above (gap_from slots d) t a low in
      let n : ℕ = until_next slots d a in
      (n, omega arith, omega arith, sym (turn_ring k n) ∙ (next_found a own).0)

  -- from a turn on, wherever
  step_turn : (x : ℕ) → (w : ℕ) × (w ≤ gap slots d - 1) × (turn slots (x + w) ≡ d)
      → (w : ℕ) × (w ≤ gap slots d - 1) × (turn slots (x + 1 + w) ≡ d)
  step_turn x (w, l, h) = ⊎_elim
      (λ (k : 0 < w). (w - 1, omega arith, ap (turn slots) (omega arith) ∙ h))
      (λ (k : w ≤ 0). let n = next_turn x (ap (turn slots) (omega arith) ∙ h) in
      (n.0 - 1, omega (arith, n.2), ap (turn slots) (omega (arith, n.1)) ∙ n.3))
      (cases_lt 0 w)

  on_turn : (k : ℕ) → turn slots k ≡ d → (m : ℕ) → (w : ℕ) × (w ≤ gap slots d - 1) × (turn slots (k + m + w) ≡ d)
  on_turn k h zero = (0, omega arith, ap (turn slots) (omega arith) ∙ h)
  on_turn k h (suc m) = let r = step_turn (k + m) (on_turn k h m) in (r.0, r.1, ap (turn slots) (omega arith) ∙ r.2)

  wait : (k : ℕ) → k < length slots → turn slots k ≡ d → (x : ℕ) → (w : ℕ) × (w ≤ gap slots d - 1) × (turn slots (x + w) ≡ d)
  wait k l h x =
      let r = on_turn k h (x + length slots - k) in
      (r.0, r.1, sym (turn_round (x + r.0)) ∙ (ap (turn slots) (omega arith) ∙ r.2))

module _ (c : Machine) (timed : Timed c) (d : ℕ) (hd : d < domains c) where
  -- a port's turn comes within the gap, and within once round
  pub turn_comes : (r p t : ℕ)
      → (w : ℕ) × (w ≤ gap c.timetable.slots d - 1) × (w < length c.timetable.slots) × (owner c r p (t + w) ≡ d)
  unfolding owner
  turn_comes r p t =
      let k = timed.turn d hd in
      let slots : List ℕ = c.timetable.slots in
      let some : 0 < length slots = omega (arith, k.1) in
      let w = wait slots d some k.0 k.1 k.2 (t + offset c.timetable.offsets r p) in
      (w.0, w.1, omega (arith, w.1, gap_short slots d some), ap (turn slots) (omega arith) ∙ w.2)

  pub rides : (r p s t : ℕ) → r < routers c → p < 4 → beyond c r p ≡ s ∷ [] → owner c s p (t + hop c) ≡ owner c r p t
  unfolding owner
  rides r p s t hr hp b =
      let n : ℕ = length c.timetable.slots in
      let o : ℕ = offset c.timetable.offsets r p in
      let o' : ℕ = offset c.timetable.offsets s p in
      let e : (t + hop c + o') % n ≡ (t + o) % n =
      ap (λ (x : ℕ). x % n) (omega arith) ∙ (sym (add-mod-mod t (o' + hop c) n)
      ∙ (ap (λ (x : ℕ). (t + x) % n) (timed.wave r p s hr hp b) ∙ add-mod-mod t o n)) in
      ap (λ (x : ℕ). get_or c.timetable.slots x 0) e
