-- Links: the router beyond a side lies in the mesh, and has this one beyond its opposite side.
use Rattle.std.proofs.Common.{◌≡◌, ℕ, ◌*◌, ◌<◌, ◌⊎◌, [], ◌∷◌, Some, Option, sym, refl, ap, ◌∙◌, mul_comm, arith, Bool, true, cond, None, inl, inr}
use Rattle.std.specs.Option.{option_map, option_to_list}
use Rattle.std.proofs.lemmas.Nat.{div-mul-add, mod-mul-add, div_below, mod_below, div-add-mod', mul-add-lt}
use Rattle.schedule.specs.declared.geometry.Position.{Position}
use Rattle.schedule.specs.Mesh.{position, position_of, router_at, Within, neighbour}
use Rattle.machine.specs.Machine.{Machine, width, routers, beyond, opposite}

-- a test that passed chooses its place
choose : (test : Bool) (x y : Position) → test ≡ true → x.column ≡ y.column → x.row ≡ y.row → cond test (Some x) None ≡ Some y
choose test x y e c r = rw e (λ i. Some (position (c i) (r i)))

abbrev pub Back : ℕ → ℕ → Position → ℕ → Position → Type 0
Back w h a side b = Within w h b × (neighbour w h b (opposite side) ≡ Some a) × (opposite (opposite side) ≡ side) × (opposite side < 4)

pub neighbour_back : (w h : ℕ) (a b : Position) (side : ℕ) → Within w h a → neighbour w h a side ≡ Some b → Back w h a side b
unfolding opposite
neighbour_back w h a b side i e = grind arith

-- numbers and places go to and fro
pub position_router : (w : ℕ) (a : Position) → a.column < w → position_of w (router_at w a) ≡ a
position_router w a l =
    let d = div-mul-add a.row w a.column l in
    let m = mod-mul-add a.row w a.column l in
    λ i. position (m i) (d i)

pub position_within : (w h r : ℕ) → 0 < w → r < w * h → Within w h (position_of w r)
position_within w h r p l = (mod_below r w p, div_below r w h p (omega (arith, mul_comm w h)))

-- the one router of a list of at most one
listed : (w : ℕ) (o : Option Position) (s : ℕ) → option_to_list (option_map (router_at w) o) ≡ s ∷ []
    → (p : Position) × (o ≡ Some p) × (router_at w p ≡ s)
listed w o s e = grind arith

one_of : (o : Option ℕ) → (option_to_list o ≡ []) ⊎ ((s : ℕ) × (option_to_list o ≡ s ∷ []))
one_of None = inl refl
one_of (Some s) = inr (s, refl)

pub some_of_list : (o : Option ℕ) (s : ℕ) → option_to_list o ≡ s ∷ [] → o ≡ Some s
some_of_list o s e = grind arith

module _ (c : Machine) where
  pub width_some : (r : ℕ) → r < routers c → 0 < width c
  unfolding routers width
  width_some r h = grind arith

  pub beyond_back : (r i s : ℕ) → r < routers c → beyond c r i ≡ s ∷ []
      → (s < routers c) × (beyond c s (opposite i) ≡ r ∷ []) × (opposite (opposite i) ≡ i) × (opposite i < 4)
  unfolding beyond routers width
  beyond_back r i s h e =
      let w : ℕ = c.timetable.sizes.width in
      let high : ℕ = c.timetable.sizes.height in
      let some : 0 < w = width_some r h in
      let a : Position = position_of w r in
      let p = listed w (neighbour w high a i) s e in
      let b : Position = p.0 in
      let back = neighbour_back w high a b i (position_within w high r some h) p.1 in
      let there : position_of w s ≡ b = ap (position_of w) (sym p.2) ∙ position_router w b back.0.0 in
      let here : router_at w a ≡ r = div-add-mod' r w in (
        omega (arith, p.2, mul-add-lt b.row w b.column high back.0.1 back.0.0),
        ap (λ (x : Position). option_to_list (option_map (router_at w) (neighbour w high x (opposite i)))) there
            ∙ (ap (λ (o : Option Position). option_to_list (option_map (router_at w) o)) back.1 ∙ ap (λ (x : ℕ). x ∷ []) here),
        back.2,
        back.3,
      )

  pub beyond_cases : (r i : ℕ) → (beyond c r i ≡ []) ⊎ ((s : ℕ) × (beyond c r i ≡ s ∷ []))
  unfolding beyond
  beyond_cases r i = grind arith

  -- no router lies beyond a router's own core
  pub beyond_own : (r : ℕ) → beyond c r 4 ≡ []
  unfolding beyond
  beyond_own r = refl

  pub beyond_low : (r i s : ℕ) → beyond c r i ≡ s ∷ [] → i < 4
  unfolding beyond
  beyond_low r i s e = grind arith
