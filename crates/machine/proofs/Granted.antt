-- A port that grants sends the first packet of the queue that wins it, and a queue loses just what the ports send.
use Rattle.std.proofs.Common.{◌≡◌, ℕ, ◌<◌, ◌≤◌, Bool, true, false, cond, ◌&&◌, eqb, ltb, leb, List, [], ◌∷◌, ◌++◌, map, length, take, sym, refl, ap, ◌∙◌, arith}
use Rattle.std.proofs.lemmas.List.{append_assoc, take-append-drop}
use Rattle.std.proofs.lemmas.Bool.{both_ways, leb-true, and_parts, and_from, ltb-true, eqb-true, eq-eqb, cond-true, cond-false}
use Rattle.machine.specs.Machine.{Machine, towards}
use Rattle.machine.specs.Packets.{Packet, View}
use Rattle.machine.specs.Cycle.{asking, asks, first_leaves, leaves, ready_at, sends, stays, grants, winner}
use Rattle.machine.proofs.Choices.{leaves_some}
use Rattle.machine.proofs.Laws.{Lawful}
use Rattle.machine.proofs.Sides.{asking_tells, asking_low}

-- the packet that goes, and where it stood
pub record Granted {P : Type 0} (c : Machine) (d : ℕ) (v : View P) (r p : ℕ) : Type 0 where
  pub side : winner c v r p < 5
  pub x : Packet P
  pub xs : List (Packet P)
  pub queue : v.queue r (winner c v r p) ≡ x ∷ xs
  pub way : towards c r x.destination ≡ p
  pub ripe : x.ready ≤ v.cycle
  pub sends : sends c d v r p ≡ x ∷ []
  pub leaves : leaves c d v r (winner c v r p) ≡ true

module _ {P : Type 0} (c : Machine) (laws : Lawful c) (d : ℕ) (v : View P) (r p : ℕ) where
  granted_at : grants c d v r p ≡ true → winner c v r p < 5 → (q : List (Packet P)) → v.queue r (winner c v r p) ≡ q
      → asks c v.cycle r p (v.queue r (winner c v r p)) ≡ true → Granted c d v r p
  unfolding asks first_leaves sends leaves
  granted_at f w [] e a = let k : false ≡ true = rw e at a in cc
  granted_at f w (x ∷ xs) e a =
      let k : (leb x.ready v.cycle && eqb (towards c r x.destination) p) ≡ true = rw e at a in
      let parts = and_parts (leb x.ready v.cycle) (eqb (towards c r x.destination) p) k in
      let way : towards c r x.destination ≡ p = eqb-true _ _ parts.1 in
      record {
        side = w;
        x = x;
        xs = xs;
        queue = e;
        way = way;
        ripe = leb-true _ _ parts.0;
        sends = cond-true _ _ _ f ∙ rw e;
        leaves = rw e (rw way (and_from _ _ f (eq-eqb _ _ refl)));
      }

  pub granted : grants c d v r p ≡ true → Granted c d v r p
  unfolding grants winner
  granted f =
      let pos : 0 < asking c v r p = ltb-true _ _ (and_parts (ltb 0 (asking c v r p)) _ (and_parts _ _ f).1).0 in
      let won = laws.wins (v.word r p) (asking c v r p) pos (asking_low c v r p) in
      granted_at f won.0 (v.queue r (winner c v r p)) refl (sym (asking_tells c v r p (winner c v r p) won.0) ∙ won.1)

-- a queue is what leaves it and what stays
module _ {P : Type 0} (c : Machine) (d : ℕ) (v : View P) (r i : ℕ) where
  unfoldable pub goes : List (Packet P)
  goes = cond (leaves c d v r i) (take 1 (v.queue r i)) []

  pub goes_stays : goes ++ stays c d v r i ≡ v.queue r i
  unfolding goes stays
  goes_stays = grind (arith, take-append-drop 1 (v.queue r i))

-- the payloads of one source and destination
unfoldable pub between : {P : Type 0} → ℕ → ℕ → Packet P → Bool
between s e x = eqb x.source s && eqb x.destination e

unfoldable pub flow : {P : Type 0} → ℕ → ℕ → List (Packet P) → List P
flow s e [] = []
flow s e (x ∷ xs) = cond (between s e x) (x.payload ∷ []) [] ++ flow s e xs

module _ {P : Type 0} (s e : ℕ) where
  pub flow_append : (xs ys : List (Packet P)) → flow s e (xs ++ ys) ≡ flow s e xs ++ flow s e ys
  unfolding flow
  flow_append [] ys = refl
  flow_append (x ∷ xs) ys = grind (arith, append_assoc, flow_append xs ys)

  pub flow_ready : (t : ℕ) (xs : List (Packet P)) → flow s e (map (ready_at t) xs) ≡ flow s e xs
  unfolding flow ready_at between
  flow_ready t [] = refl
  flow_ready t (x ∷ xs) = grind (arith, flow_ready t xs)

  flow_none : (x : Packet P) → between s e x ≡ false → flow s e (x ∷ []) ≡ []
  unfolding flow
  flow_none x h = rw h

-- what leaves side i for e goes out by the way to e, if no other side has any
module _ {P : Type 0} (c : Machine) (laws : Lawful c) (d : ℕ) (v : View P) (s e r i : ℕ)
    (only : (w : ℕ) (x : Packet P) (xs : List (Packet P)) → v.queue r w ≡ x ∷ xs → between s e x ≡ true → w ≡ i) where
  -- a head that leaves
  left_by : (x : Packet P) (xs : List (Packet P)) → v.queue r i ≡ x ∷ xs → leaves c d v r i ≡ true → between s e x ≡ true
      → (grants c d v r (towards c r e) ≡ true) × (winner c v r (towards c r e) ≡ i)
  unfolding leaves first_leaves between
  left_by x xs q l b = grind arith

  out_nothing : ((y : Packet P) (ys : List (Packet P)) → v.queue r i ≡ y ∷ ys → leaves c d v r i ≡ true → between s e y ≡ false)
      → flow s e (sends c d v r (towards c r e)) ≡ []
  unfolding sends flow
  out_nothing h = go (grants c d v r (towards c r e)) refl
    where
      came : (g : Granted c d v r (towards c r e)) (b : Bool) → between s e g.x ≡ b → flow s e (g.x ∷ []) ≡ []
      came g true e₁ =
          let w = only _ g.x g.xs g.queue e₁ in
          grind (arith, h g.x g.xs, g.queue, g.leaves)
      came g false e₁ = flow_none s e g.x e₁

      go : (b : Bool) → grants c d v r (towards c r e) ≡ b → flow s e (sends c d v r (towards c r e)) ≡ []
      go true f = let g = granted c laws d v r (towards c r e) f in ap (flow s e) g.sends ∙ came g (between s e g.x) refl
      go false f = ap (flow s e) (cond-false _ _ _ f)

  pub goes_sends : flow s e (goes c d v r i) ≡ flow s e (sends c d v r (towards c r e))
  unfolding goes flow
  goes_sends = go (leaves c d v r i) refl (v.queue r i) refl
    where
      Goal : Type 0
      Goal = flow s e (goes c d v r i) ≡ flow s e (sends c d v r (towards c r e))

      had : (y : Packet P) (ys : List (Packet P)) → v.queue r i ≡ y ∷ ys → leaves c d v r i ≡ true → goes c d v r i ≡ y ∷ []
      had y ys q l = cond-true _ _ _ l ∙ ap (take 1) q

      mine : (y : Packet P) (ys : List (Packet P)) → v.queue r i ≡ y ∷ ys → leaves c d v r i ≡ true → (b : Bool) → between s e y ≡ b → Goal
      mine y ys q l true b =
          let k = left_by y ys q l b in
          let g = granted c laws d v r (towards c r e) k.0 in
          grind (arith, had y ys q l, g.queue, g.sends, k.1)
      mine y ys q l false b = ap (flow s e) (had y ys q l) ∙ flow_none s e y b
          ∙ sym (out_nothing (λ y' ys' q' l'. grind arith))

      go : (b : Bool) → leaves c d v r i ≡ b → (q : List (Packet P)) → v.queue r i ≡ q → Goal
      go false l q e₁ = ap (flow s e) (cond-false _ _ _ l) ∙ sym (out_nothing (λ y ys q' l'. absurd (both_ways _ l l')))
      go true l [] e₁ = absurd (omega (arith, leaves_some c d v r i l, ap length e₁))
      go true l (y ∷ ys) e₁ = mine y ys e₁ l (between s e y) refl
