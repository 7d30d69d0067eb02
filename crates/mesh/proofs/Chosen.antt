-- What a port does, by cases.
use Rattle.std.proofs.Common.{◌≡◌, ℕ, ◌+◌, ◌*◌, ◌/◌, ◌%◌, ◌<◌, Bool, true, false, ltb, ◌⊎◌, List, get_or, Some, None, refl, ap, inl, inr, ⊎_elim, arith}
use Rattle.std.proofs.lemmas.Bool.{lt-ltb, le-ltb, and_right, and_left, and_from, cases_Bool, cases_eq}
use lib.Arith.{digits_div, digits_mod}
use Rattle.mesh.specs.declared.asking.Asked.{Asked}
use Rattle.mesh.specs.Asked.{asked}
use Rattle.mesh.specs.Heads.{Outset, asking_set}
use Rattle.mesh.specs.Ports.{owner, room, passes, move_by, move_in, move_of}
use Rattle.schedule.specs.declared.plan.Plan.{Plan}
use Rattle.machine.specs.declared.tables.Queue.{Queue}
use Rattle.machine.specs.declared.tables.Place.{Place}

module _ (v : Outset) (choose : ℕ → ℕ → (ℕ × ℕ)) (words : List ℕ) (k d : ℕ) where
  abbrev set : ℕ
  set = asking_set v (k / 5) (k % 5) d

  abbrev free : Bool
  free = room v.plan v.queues k d

  pub move_full : free ≡ false → None ≡ move_in v choose words k d
  unfolding move_in
  move_full e = rw (and_right (ltb 0 set) free e) refl

  pub move_unasked : set ≡ 0 → None ≡ move_in v choose words k d
  unfolding move_in
  move_unasked e = rw (and_left (ltb 0 set) free (le-ltb 0 set (omega arith))) refl

  pub move_passes : 0 < set → free ≡ true → (picked : ℕ × ℕ) → picked ≡ choose (get_or words (k * v.plan.sizes.domains + d) 0) set →
      Some (passes v.plan v.queues v.places d picked.0 picked.1 ((k / 5 * 5 + picked.0) * v.plan.sizes.domains + d))
      ≡ move_in v choose words k d
  unfolding move_in
  move_passes some e picked p =
      rw (and_from (ltb 0 set) free (lt-ltb 0 set some) e)
      (ap (λ (x : ℕ × ℕ). Some (passes v.plan v.queues v.places d x.0 x.1 ((k / 5 * 5 + x.0) * v.plan.sizes.domains + d))) p)

  -- what a port may do
  pub move_cases : (None ≡ move_in v choose words k d) ⊎ ((0 < set) × (free ≡ true) × (Some (passes v.plan v.queues v.places d
      (choose (get_or words (k * v.plan.sizes.domains + d) 0) set).0 (choose (get_or words (k * v.plan.sizes.domains + d) 0) set).1
      ((k / 5 * 5 + (choose (get_or words (k * v.plan.sizes.domains + d) 0) set).0) * v.plan.sizes.domains + d))
      ≡ move_in v choose words k d))
  move_cases =
      ⊎_elim (λ (e : set ≡ 0). inl (move_unasked e)) (λ (n : set ≡ 0 → ⊥).
      ⊎_elim (λ (e : free ≡ true). let s : 0 < set = omega arith in
      inr (s, e, move_passes s e (choose (get_or words (k * v.plan.sizes.domains + d) 0) set) refl))
      (λ (e : free ≡ false). inl (move_full e))
      (cases_Bool free))
      (cases_eq set 0)

-- the same, told the sides that ask
module _ (plan : Plan) (queues : List Queue) (places : List Place) (k d set : ℕ) (picked : ℕ × ℕ) where
  pub by_unasked : (free : Bool) → set ≡ 0 → None ≡ move_by plan queues places k d free set picked
  by_unasked free e = rw (and_left (ltb 0 set) free (le-ltb 0 set (omega arith))) refl

  pub by_full : (free : Bool) → free ≡ false → None ≡ move_by plan queues places k d free set picked
  by_full free e = rw (and_right (ltb 0 set) free e) refl

  pub by_passes : (free : Bool) → 0 < set → free ≡ true → (p : ℕ × ℕ) → p ≡ picked →
      Some (passes plan queues places d p.0 p.1 ((k / 5 * 5 + p.0) * plan.sizes.domains + d))
      ≡ move_by plan queues places k d free set picked
  by_passes free some e p is =
      rw (and_from (ltb 0 set) free (lt-ltb 0 set some) e)
      (ap (λ (x : ℕ × ℕ). Some (passes plan queues places d x.0 x.1 ((k / 5 * 5 + x.0) * plan.sizes.domains + d))) is)

-- port p of router r, told its owner and the sides that ask
pub settled : (v : Outset) (choose : ℕ → ℕ → (ℕ × ℕ)) (words : List ℕ) (r p : ℕ) (port : Asked) → p < 5
    → port ≡ asked (owner v.plan v.cycle (r * 5 + p)) (asking_set v r p (owner v.plan v.cycle (r * 5 + p))) →
    move_by v.plan v.queues v.places (r * 5 + p) port.owner (room v.plan v.queues (r * 5 + p) port.owner) port.sides
    (choose (get_or words ((r * 5 + p) * v.plan.sizes.domains + port.owner) 0) port.sides) ≡ move_of v choose words (r * 5 + p)
unfolding move_in
settled v choose words r p port h e =
    let k = r * 5 + p in
    let a : k / 5 ≡ r = digits_div r h in
    let b : k % 5 ≡ p = digits_mod r h in
    rw (e, a, b) refl
