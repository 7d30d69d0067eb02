-- Neighbours: they lie in the mesh, one step from the corner of column 0 and row 0 nearer or farther, and their numbers tell their places.
use Rattle.std.proofs.Common.{◌≡◌, ℕ, zero, suc, ◌+◌, ◌-◌, ◌*◌, ◌<◌, Bool, true, false, cond, ltb, Some, None, Option, refl, subst, mul_comm, arith}
use Rattle.std.specs.Option.{option_map}
use Rattle.std.proofs.lemmas.Nat.{div-mul-add, mod-mul-add, div_below, mod_below}
use Rattle.std.proofs.lemmas.Bool.{ltb-true}
use Rattle.schedule.specs.declared.geometry.Position.{Position}
use Rattle.schedule.specs.Mesh.{position, position_of, router_at, Within, neighbour}

-- the step between a router and its neighbour on a side: east and south lead away from the corner, west and north towards it
abbrev pub Step : ℕ → Position → Position → Type 0
Step zero a b = b.column + b.row ≡ a.column + a.row + 1
Step (suc zero) a b = a.column + a.row ≡ b.column + b.row + 1
Step (suc (suc zero)) a b = b.column + b.row ≡ a.column + a.row + 1
Step (suc (suc (suc zero))) a b = a.column + a.row ≡ b.column + b.row + 1
Step (suc (suc (suc (suc side)))) a b = ⊥

-- a test that chose a place was passed, and the place is the one it chose
chosen : (test : Bool) (x y : Position) → cond test (Some x) None ≡ Some y → (test ≡ true) × (x ≡ y)
chosen true x y e = (refl, cc)
chosen false x y e = absurd cc

pub placed : {X Y : Type 0} (f : X → Y) (o : Option X) (y : Y) → option_map f o ≡ Some y → (x : X) × (o ≡ Some x) × (f x ≡ y)
placed f None y e = absurd cc
placed f (Some x) y e = (x, refl, cc)

pub neighbour_step : (w h : ℕ) (a b : Position) (side : ℕ) → Within w h a → neighbour w h a side ≡ Some b → Step side a b × Within w h b
neighbour_step w h a b zero i e =
    let p = chosen (ltb (a.column + 1) w) (position (a.column + 1) a.row) b e in
    let l = ltb-true (a.column + 1) w p.0 in
    subst (λ q. Step 0 a q × Within w h q) p.1 (omega arith, (l, i.1))
neighbour_step w h a b (suc zero) i e =
    let p = chosen (ltb 0 a.column) (position (a.column - 1) a.row) b e in
    let l = ltb-true 0 a.column p.0 in
    subst (λ q. Step 1 a q × Within w h q) p.1 (omega arith, (omega (arith, i.0), i.1))
neighbour_step w h a b (suc (suc zero)) i e =
    let p = chosen (ltb (a.row + 1) h) (position a.column (a.row + 1)) b e in
    let l = ltb-true (a.row + 1) h p.0 in
    subst (λ q. Step 2 a q × Within w h q) p.1 (omega arith, (i.0, l))
neighbour_step w h a b (suc (suc (suc zero))) i e =
    let p = chosen (ltb 0 a.row) (position a.column (a.row - 1)) b e in
    let l = ltb-true 0 a.row p.0 in
    subst (λ q. Step 3 a q × Within w h q) p.1 (omega arith, (i.0, omega (arith, i.1)))
neighbour_step w h a b (suc (suc (suc (suc side)))) i e = absurd cc

-- numbers and places go to and fro
pub position_router : (w : ℕ) (a : Position) → a.column < w → position_of w (router_at w a) ≡ a
position_router w a l =
    let d = div-mul-add a.row w a.column l in
    let m = mod-mul-add a.row w a.column l in
    λ i. position (m i) (d i)

pub position_within : (w h r : ℕ) → 0 < w → r < w * h → Within w h (position_of w r)
position_within w h r p l = (mod_below r w p, div_below r w h p (omega (arith, mul_comm w h)))
