-- A domain's delivery is a marked record with the payload beside it, and a marked record is a delivery.
use Rattle.std.proofs.Common.{cond, ◌≡◌, ℕ, zero, suc, ◌+◌, ◌-◌, ◌<◌, Bool, true, false, ◌&&◌, eqb, List, [], ◌∷◌, take, drop, sym, refl, ap, ◌∙◌, subst, ⊎_elim, arith}
use Rattle.std.proofs.lemmas.List.{drop-take, take-take}
use Rattle.std.proofs.lemmas.Grind.{common_steps}
use Rattle.std.specs.List.{Contains}
use Rattle.std.proofs.lemmas.List.Elements.{Contains-append_cases}
use Rattle.std.proofs.lemmas.Bool.{and_parts, eqb-true}
use Rattle.machine.specs.declared.tables.Delivery.{Delivery}
use Rattle.machine.specs.Calls.{Answer, if_accepted}
use Rattle.machine.specs.Machine.{Machine, routers}
use Rattle.machine.specs.Packets.{Arrival}
use Rattle.machine.specs.Promise.{Ran, Injected, Delivers}
use Rattle.machine.specs.Runs.{Event, happens, marked, deliveries}
use Rattle.machine.specs.Tables.{Tables, at}

-- the arrival of a packet in a cycle
abbrev pub arrives : {P : Type 0} → Injected P → ℕ → Arrival P
arrives p n = record { cycle = n; router = p.destination; source = p.source; payload = p.payload }

abbrev mark_of : {P : Type 0} → Injected P → Delivery
mark_of p = record { mark = 1; domain = p.domain; source = p.source }

at_none : {X : Type 0} (k : ℕ) (x : X) → at [] k ≡ x ∷ [] → ⊥
unfolding at
at_none k x h = grind (arith, common_steps)

at_front : {X : Type 0} (n k : ℕ) (xs : List X) → k < n → at (take n xs) k ≡ at xs k
unfolding at
at_front n k xs h = grind (arith, common_steps, drop-take k (n - k) xs, take-take 1 (n - k) (drop k xs))

module _ {P : Type 0} (p : Injected P) (t n : ℕ) where
  abbrev Shown : ℕ → List Delivery → List P → Type 0
  Shown a ds gs = (j : ℕ) × (p.destination ≡ a + j) × (at ds j ≡ mark_of p ∷ []) × (at gs j ≡ p.payload ∷ [])

  shown : (a : ℕ) (ds : List Delivery) (gs : List P) → Contains (marked t p.domain a ds gs) (arrives p n) → Shown a ds gs
  unfolding marked at
  shown a [] gs h = absurd (omega (arith, h.1))
  shown a (y ∷ ds) [] h = absurd (omega (arith, h.1))
  shown a (y ∷ ds) (g ∷ gs) h = ⊎_elim
      (λ w. go (eqb y.mark 1 && eqb y.domain p.domain) refl w)
      (λ w. let s = shown (a + 1) ds gs w in (suc s.0, omega (arith, s.1), s.2, s.3))
      (Contains-append_cases
      (cond (eqb y.mark 1 && eqb y.domain p.domain) (record { cycle = t; router = a; source = y.source; payload = g } ∷ []) [])
      (marked t p.domain (a + 1) ds gs) (arrives p n) h)
    where
      go : (b : Bool) → (eqb y.mark 1 && eqb y.domain p.domain) ≡ b
          → Contains (cond b (record { cycle = t; router = a; source = y.source; payload = g } ∷ []) []) (arrives p n) → Shown a (y ∷ ds) (g ∷ gs)
      go true q (zero, l, w) =
          let both = and_parts (eqb y.mark 1) (eqb y.domain p.domain) q in
          let here : y ≡ mark_of p =
          λ i. record {
            mark = eqb-true y.mark 1 both.0 i;
            domain = eqb-true y.domain p.domain both.1 i;
            source = (w i).source;
          } in (
            0,
            omega (arith, ap (λ (v : Arrival P). v.router) w),
            ap (λ (v : Delivery). v ∷ []) here,
            ap (λ (v : Arrival P). v.payload ∷ []) w,
          )
      go true q (suc k, l, w) = absurd (omega arith)
      go false q (k, l, w) = absurd (omega arith)

  not_none : (a : ℕ) (ds : List Delivery) (gs : List P) (j : ℕ) → at ds j ≡ mark_of p ∷ [] → at gs j ≡ p.payload ∷ []
      → marked t p.domain a ds gs ≡ [] → ⊥
  unfolding marked at
  not_none a [] gs j h k e = at_none j _ h
  not_none a (y ∷ ds) [] j h k e = at_none j _ k
  not_none a (y ∷ ds) (g ∷ gs) zero h k e = grind arith
  not_none a (y ∷ ds) (g ∷ gs) (suc j) h k e = not_none (a + 1) ds gs j h k (grind arith)

module _ {P : Type 0} (c : Machine) (p : Injected P) (he : p.destination < routers c) (t : Tables P) (e : Event P) where
  pub delivered : (n : ℕ) → Ran c n t e → Contains (deliveries c t.cycle p.domain (happens c t e)) (arrives p n) → Delivers c p n t e
  unfolding deliveries if_accepted
  delivered n ran h =
      let R : ℕ = routers c in
      let ds : List Delivery = (happens c t e).deliveries in
      let gs : List P = (happens c t e).delivered in
      let all : List (Arrival P) = marked t.cycle p.domain 0 (take R ds) (take R gs) in
      let w = shown p t.cycle n 0 (take R ds) (take R gs) (subst (λ l. Contains l (arrives p n))
      (ap (λ (b : Answer). if_accepted b all []) ran.ran) h) in
      let j : p.destination ≡ w.0 = omega (arith, w.1) in
      record {
        ran = ran;
        marked = sym (at_front R p.destination ds he) ∙ (ap (at (take R ds)) j ∙ w.2);
        beside = sym (at_front R p.destination gs he) ∙ (ap (at (take R gs)) j ∙ w.3);
      }

  pub undelivered : deliveries c t.cycle p.domain (happens c t e) ≡ [] → (n : ℕ) × Delivers c p n t e → ⊥
  unfolding deliveries if_accepted
  undelivered q (n, g) =
      let R : ℕ = routers c in
      let ds : List Delivery = (happens c t e).deliveries in
      let gs : List P = (happens c t e).delivered in
      let all : List (Arrival P) = marked t.cycle p.domain 0 (take R ds) (take R gs) in
      not_none p t.cycle n 0 (take R ds) (take R gs) p.destination
      (at_front R p.destination ds he ∙ g.marked) (at_front R p.destination gs he ∙ g.beside)
      (sym (ap (λ (b : Answer). if_accepted b all []) g.ran.ran) ∙ q)
