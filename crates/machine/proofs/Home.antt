-- When a packet that meets no other is home: not earlier for a later start, and by the bound.
use Rattle.std.proofs.Common.{◌≡◌, ℕ, ◌+◌, ◌-◌, ◌*◌, ◌<◌, ◌≤◌, cond, eqb, List, [], ◌∷◌, length, sym, ap, ◌∙◌, ⊎_elim, arith}
use Rattle.std.proofs.lemmas.Bool.{cases_lt, eqb-true, eq-eqb}
use Rattle.machine.specs.Machine.{Machine, routers, owner, beyond, domains, hop}
use Rattle.schedule.specs.Turns.{gap}
use Rattle.machine.specs.Promise.{straight_runs, turn_from, at_one, home, Path, bound}
use Rattle.machine.proofs.Links.{beyond_back, beyond_low}
use Rattle.machine.proofs.Gap.{found, turn_comes, rides}
use Rattle.machine.proofs.Laws.{Timed}

unfoldable pub side_of_path : List ℕ → ℕ
side_of_path [] = 4
side_of_path (p ∷ ps) = p

extra : ℕ → List ℕ → ℕ
extra p [] = 1
extra p (q ∷ qs) = cond (eqb p q) 0 1

module _ (c : Machine) (timed : Timed c) (d : ℕ) (hd : d < domains c) where
  module _ (r p : ℕ) where
    turn_at : (t : ℕ) → (owner c r p (turn_from c d r p t) ≡ d) × (t ≤ turn_from c d r p t)
        × (turn_from c d r p t < t + length c.timetable.slots)
    unfolding turn_from
    turn_at t =
        let w = turn_comes c timed d hd r p t in
        let f = found (λ j. eqb (owner c r p (t + j)) d) (length c.timetable.slots) w.0 w.2 (eq-eqb _ _ w.3) in
        (eqb-true _ _ f.0, omega arith, omega (arith, f.1, w.2))

    least : (t u : ℕ) → t ≤ u → owner c r p u ≡ d → turn_from c d r p t ≤ u
    unfolding turn_from
    least t u h o = ⊎_elim
        (λ (l : u < t + length c.timetable.slots).
        let o' : owner c r p (t + (u - t)) ≡ d = ap (owner c r p) (omega arith) ∙ o in
        omega (arith, (found (λ j. eqb (owner c r p (t + j)) d) (length c.timetable.slots) (u - t) (omega arith) (eq-eqb _ _ o')).1))
        (λ (l : t + length c.timetable.slots ≤ u). omega (arith, (turn_at t).2)) (cases_lt u (t + length c.timetable.slots))

    pub at_turn : (t : ℕ) → owner c r p t ≡ d → turn_from c d r p t ≡ t
    at_turn t o = omega (arith, least t t (omega arith) o, (turn_at t).1)

    pub past_turn : (t : ℕ) → (owner c r p t ≡ d → ⊥) → turn_from c d r p t ≡ turn_from c d r p (t + 1)
    past_turn t n =
        let a = turn_at t in
        let b = turn_at (t + 1) in
        let later : t + 1 ≤ turn_from c d r p t = grind (arith, a) in
        omega (arith, least (t + 1) (turn_from c d r p t) later a.0, least t (turn_from c d r p (t + 1)) (omega (arith, b.1)) b.0)

    turn_mono : (t u : ℕ) → t ≤ u → turn_from c d r p t ≤ turn_from c d r p u
    turn_mono t u h = let b = turn_at u in least t (turn_from c d r p u) (omega (arith, b.1)) b.0

    turn_near : (t : ℕ) → turn_from c d r p t ≤ t + (gap c.timetable.slots d - 1)
    turn_near t = let w = turn_comes c timed d hd r p t in omega (arith, least t (t + w.0) (omega arith) w.3, w.1)

  pub home_mono : (ps : List ℕ) (r t u : ℕ) → t ≤ u → home c d r ps t ≤ home c d r ps u
  unfolding home at_one
  home_mono [] r t u h = turn_mono r 4 t u h
  home_mono (p ∷ ps) r t u h = go (beyond c r p) (λ s a b k. home_mono ps s a b k)
    where
      go : (l : List ℕ) → ((s a b : ℕ) → a ≤ b → home c d s ps a ≤ home c d s ps b)
          → at_one l (λ s. home c d s ps (turn_from c d r p t + hop c)) ≤ at_one l (λ s. home c d s ps (turn_from c d r p u + hop c))
      go [] f = omega arith
      go (s ∷ l) f = f s _ _ (omega (arith, turn_mono r p t u h))

  -- only the first turn matters
  pub home_same : (ps : List ℕ) (r t u : ℕ) → turn_from c d r (side_of_path ps) t ≡ turn_from c d r (side_of_path ps) u
      → home c d r ps t ≡ home c d r ps u
  unfolding home side_of_path
  home_same [] r t u e = e
  home_same (p ∷ ps) r t u e = ap (λ (a : ℕ). at_one (beyond c r p) (λ s. home c d s ps (a + hop c))) e

  pub home_next : (p : ℕ) (ps : List ℕ) (r s t : ℕ) → beyond c r p ≡ s ∷ []
      → home c d r (p ∷ ps) t ≡ home c d s ps (turn_from c d r p t + hop c)
  unfolding home at_one
  home_next p ps r s t b = ap (λ (l : List ℕ). at_one l (λ s. home c d s ps (turn_from c d r p t + hop c))) b

  pub home_ge : (e : ℕ) (ps : List ℕ) (r t : ℕ) → Path c e r ps → t ≤ home c d r ps t
  unfolding home Path
  home_ge e [] r t w = (turn_at r 4 t).1
  home_ge e (p ∷ ps) r t (q, n, (s, b, rest)) =
      omega (arith, home_next p ps r s t b, home_ge e ps s (turn_from c d r p t + hop c) rest, (turn_at r p t).1)

  runs_head : (p : ℕ) (ps : List ℕ) → straight_runs (p ∷ ps) ≡ extra p ps + straight_runs ps
  unfolding straight_runs extra
  runs_head p ps = grind arith

  -- from one turn to the next: with the wave at once, else within the gap
  next_turn : (e p : ℕ) (ps : List ℕ) (r s t : ℕ) → r < routers c → p < 4 → beyond c r p ≡ s ∷ [] → Path c e s ps → owner c r p t ≡ d
      → turn_from c d s (side_of_path ps) (t + hop c) ≤ t + hop c + extra p ps * (gap c.timetable.slots d - 1)
  unfolding extra side_of_path
  next_turn e p [] r s t hr hp b w o = omega (arith, turn_near s 4 (t + hop c))
  next_turn e p (q ∷ qs) r s t hr hp b w o =
      grind (arith, turn_near s q (t + hop c), at_turn s q (t + hop c), rides c timed d hd r p s t hr hp b)

  home_at : (e : ℕ) (ps : List ℕ) (r t : ℕ) → r < routers c → Path c e r ps → owner c r (side_of_path ps) t ≡ d
      → home c d r ps t ≤ t + length ps * hop c + straight_runs ps * (gap c.timetable.slots d - 1)
  unfolding Path home side_of_path straight_runs
  home_at e [] r t hr w o = omega (arith, at_turn r 4 t o)
  home_at e (p ∷ ps) r t hr (q, n, (s, b, rest)) o =
      let u : ℕ = turn_from c d s (side_of_path ps) (t + hop c) in
      let first : home c d r (p ∷ ps) t ≡ home c d s ps (t + hop c) =
      home_next p ps r s t b ∙ ap (λ (a : ℕ). home c d s ps (a + hop c)) (at_turn r p t o) in
      let then : home c d s ps (t + hop c) ≡ home c d s ps u = home_same ps s (t + hop c) u
      (sym (at_turn s (side_of_path ps) u (turn_at s (side_of_path ps) (t + hop c)).0)) in
      let ih : home c d s ps u ≤ u + length ps * hop c + straight_runs ps * (gap c.timetable.slots d - 1)
      = home_at e ps s u (beyond_back c r p s hr b).0 rest (turn_at s (side_of_path ps) (t + hop c)).0 in
      let near : u ≤ t + hop c + extra p ps * (gap c.timetable.slots d - 1) =
      next_turn e p ps r s t hr (beyond_low c r p s b) b rest o in
      rw (runs_head p ps) (omega arith)

  pub home_bound : (e : ℕ) (ps : List ℕ) (r t : ℕ) → r < routers c → Path c e r ps → home c d r ps t ≤ bound c t d ps
  unfolding bound
  home_bound e ps r t hr w =
      let p : ℕ = side_of_path ps in
      let a = turn_at r p t in
      omega (
        arith,
        home_same ps r t (turn_from c d r p t) (sym (at_turn r p (turn_from c d r p t) a.0)),
        home_at e ps r (turn_from c d r p t) hr w a.0,
        turn_near r p t,
      )
