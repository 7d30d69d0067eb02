-- Every packet has a path, since each side that the route rule names leads a hop nearer.
use Rattle.std.proofs.Common.{◌≡◌, ℕ, zero, suc, ◌+◌, ◌<◌, ◌≤◌, List, [], ◌∷◌, refl, ap, ◌∙◌, ⊎_elim, arith}
use Rattle.std.proofs.lemmas.Bool.{cases_eq}
use Rattle.machine.specs.Machine.{Machine, routers, towards}
use Rattle.machine.proofs.Links.{beyond_back}
use Rattle.machine.proofs.Laws.{Lawful, distance}
use Rattle.machine.specs.Promise.{Path}

module _ (c : Machine) (laws : Lawful c) (e : ℕ) (he : e < routers c) where
  -- a path, given one from each neighbour that is a hop nearer
  onward : (r : ℕ) → r < routers c → ((s : ℕ) → s < routers c → distance c s e + 1 ≡ distance c r e → (ps : List ℕ) × Path c e s ps)
      → (ps : List ℕ) × Path c e r ps
  unfolding Path
  onward r hr rest = ⊎_elim
      (λ (q : r ≡ e). ([], ap (λ (a : ℕ). towards c a e) q ∙ laws.arrived e he))
      (λ (q : r ≡ e → ⊥).
      let o = laws.nearer r e hr he q in
      let w = rest o.0 (beyond_back c r (towards c r e) o.0 hr o.1).0 o.2 in
      (towards c r e ∷ w.0, (refl, (λ (x : towards c r e ≡ 4). q (laws.only_arrived r e hr he x)), (o.0, o.1, w.1))))
      (cases_eq r e)

  path_from : (n r : ℕ) → distance c r e ≤ n → r < routers c → (ps : List ℕ) × Path c e r ps
  path_from zero r h hr = onward r hr (λ s hs d. absurd (omega arith))
  path_from (suc n) r h hr = onward r hr (λ s hs d. path_from n s (omega arith) hs)

  pub path_there : (r : ℕ) → r < routers c → (ps : List ℕ) × Path c e r ps
  path_there r hr = path_from (distance c r e) r (omega arith) hr
