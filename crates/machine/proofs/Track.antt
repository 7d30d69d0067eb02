-- The queues on the way from a source to a destination, one after another.
use Rattle.std.proofs.Common.{◌≡◌, ℕ, zero, suc, ◌+◌, ◌<◌, ◌≤◌, Bool, true, false, eqb, List, [], ◌∷◌, ◌++◌, map, sym, refl, ap, ◌∙◌, subst, ap₂, ⊎_elim, arith}
use Rattle.std.specs.List.{AllByRecursion}
use Rattle.std.proofs.lemmas.List.{append_assoc, append-nil}
use Rattle.std.proofs.ByRecursion.{All-drop, All-append}
use Rattle.std.proofs.lemmas.Bool.{cond_both, and_parts, eqb-true, cond-true}
use Rattle.machine.specs.Machine.{Machine, routers, towards, beyond, opposite, inside}
use Rattle.machine.specs.Packets.{Packet, View}
use Rattle.machine.specs.Cycle.{after, leaves, joins, sends, ready_at, grants, winner, stays}
use Rattle.machine.proofs.QueueNumbers.{inside_parts, inside_from}
use Rattle.machine.proofs.Links.{beyond_back, beyond_cases, beyond_own}
use Rattle.machine.proofs.Choices.{joins_from, joins_none}
use Rattle.machine.proofs.Granted.{granted, goes, goes_stays, between, flow, flow_append, flow_ready, goes_sends}
use Rattle.machine.proofs.Laws.{Lawful, distance}

step_on : List ℕ → ℕ → ℕ × ℕ → ℕ × ℕ
step_on [] p a = a
step_on (r ∷ rs) p a = (r, opposite p)

unfoldable pub track : Machine → ℕ → ℕ → ℕ → ℕ × ℕ
unfolding step_on
track c s e zero = (s, 4)
track c s e (suc k) = step_on (beyond c (track c s e k).0 (towards c (track c s e k).0 e)) (towards c (track c s e k).0 e)
    (track c s e k)

distance_home : (c : Machine) (e : ℕ) → distance c e e ≡ 0
unfolding distance
distance_home c e = omega arith

module _ (c : Machine) (laws : Lawful c) (s e : ℕ) (hs : s < routers c) (he : e < routers c) where
  -- place k of the way
  pub record On (k : ℕ) : Type 0 where
    pub router : (track c s e k).0 < routers c
    pub side : (track c s e k).1 < 5
    pub left : distance c (track c s e k).0 e + k ≡ distance c s e

  pub record Next (k : ℕ) : Type 0 where
    pub fed : beyond c (track c s e k).0 (towards c (track c s e k).0 e) ≡ (track c s e (suc k)).0 ∷ []
    pub back : beyond c (track c s e (suc k)).0 (track c s e (suc k)).1 ≡ (track c s e k).0 ∷ []
    pub way : opposite (track c s e (suc k)).1 ≡ towards c (track c s e k).0 e
    pub side : (track c s e (suc k)).1 < 4
    pub router : (track c s e (suc k)).0 < routers c
    pub nearer : distance c (track c s e (suc k)).0 e + 1 ≡ distance c (track c s e k).0 e

  next_on : (k : ℕ) → On k → k < distance c s e → Next k
  unfolding track step_on
  next_on k on h =
      let r : ℕ = (track c s e k).0 in
      let p : ℕ = towards c r e in
      let apart : r ≡ e → ⊥ = λ q. omega (arith, on.left, ap (λ (x : ℕ). distance c x e) q, distance_home c e) in
      let n = laws.nearer r e on.router he apart in
      let b = beyond_back c r p n.0 on.router n.1 in
      let t : track c s e (suc k) ≡ (n.0, opposite p) = ap (λ (l : List ℕ). step_on l p (track c s e k)) n.1 in
      record {
        fed = n.1 ∙ ap (λ (a : ℕ × ℕ). a.0 ∷ []) (sym t);
        back = ap (λ (a : ℕ × ℕ). beyond c a.0 a.1) t ∙ b.1;
        way = ap (λ (a : ℕ × ℕ). opposite a.1) t ∙ b.2;
        side = subst (λ (a : ℕ × ℕ). a.1 < 4) (sym t) b.3;
        router = subst (λ (a : ℕ × ℕ). a.0 < routers c) (sym t) b.0;
        nearer = ap (λ (a : ℕ × ℕ). distance c a.0 e + 1) t ∙ n.2;
      }

  on_track : (k : ℕ) → k ≤ distance c s e → On k
  unfolding track
  on_track zero h = record { router = hs; side = omega arith; left = omega arith }
  on_track (suc k) h = let o = on_track k (omega arith) in let n = next_on k o (omega arith) in
      record { router = n.router; side = omega (arith, n.side); left = omega (arith, n.nearer, o.left) }

  pub next_track : (k : ℕ) → k < distance c s e → Next k
  next_track k h = next_on k (on_track k (omega arith)) h

-- a packet stands on its way
pub record OnWay {P : Type 0} (c : Machine) (r i : ℕ) (x : Packet P) : Type 0 where
  pub destination : x.destination < routers c
  pub source : x.source < routers c
  pub k : ℕ
  pub within : k ≤ distance c x.source x.destination
  pub here : track c x.source x.destination k ≡ (r, i)

abbrev pub AllOnWay : {P : Type 0} → Machine → View P → Type 0
AllOnWay c v = (r i : ℕ) → AllByRecursion (OnWay c r i) (v.queue r i)

module _ {P : Type 0} (c : Machine) (laws : Lawful c) where
  on_way_left : (r i : ℕ) (x : Packet P) → (f : OnWay c r i x) → distance c r x.destination + f.k
      ≡ distance c x.source x.destination
  on_way_left r i x f = ap (λ (a : ℕ × ℕ). distance c a.0 x.destination + f.k) (sym f.here)
      ∙ (on_track c laws _ _ f.source f.destination f.k f.within).left

  pub on_way_only : (r i j : ℕ) (x y : Packet P) → x.source ≡ y.source → x.destination ≡ y.destination → OnWay c r i x
      → OnWay c r j y → i ≡ j
  on_way_only r i j x y es ed f g =
      let k : f.k ≡ g.k = omega (arith, on_way_left r i x f, on_way_left r j y g, ap (distance c r) ed, ap₂ (distance c) es ed) in
      let t : track c x.source x.destination f.k ≡ track c y.source y.destination g.k = cc in
      ap (λ (a : ℕ × ℕ). a.1) (sym f.here ∙ t ∙ g.here)

  pub on_way_router : (r i : ℕ) (x : Packet P) → OnWay c r i x → r < routers c
  on_way_router r i x f = subst (λ (a : ℕ × ℕ). a.0 < routers c) f.here
      (on_track c laws _ _ f.source f.destination f.k f.within).router

  -- one hop on
  on_way_next : (s w r p t : ℕ) (x : Packet P) → OnWay c s w x → towards c s x.destination ≡ p → p < 4 → beyond c s p ≡ r ∷ []
      → OnWay c r (opposite p) (ready_at t x)
  unfolding track step_on ready_at
  on_way_next s w r p t x f way low b =
      let ns : s ≡ x.destination → ⊥ =
      λ q. omega (arith, sym way ∙ ap (λ (a : ℕ). towards c a x.destination) q ∙ laws.arrived x.destination f.destination) in
      let n = laws.nearer s x.destination (on_way_router s w x f) f.destination ns in
      record {
        destination = f.destination;
        source = f.source;
        k = suc f.k;
        within = omega (arith, on_way_left s w x f, n.2);
        here = ap (λ (a : ℕ × ℕ). step_on (beyond c a.0 (towards c a.0 x.destination)) (towards c a.0 x.destination) a)
            f.here
            ∙ ap (λ (q : ℕ). step_on (beyond c s q) q (s, w)) way ∙ ap (λ (l : List ℕ). step_on l p (s, w)) b;
      }

  module _ (d : ℕ) (v : View P) (good : AllOnWay c v) where
    sends_on_way : (s r i : ℕ) → beyond c s (opposite i) ≡ r ∷ [] → opposite (opposite i) ≡ i → opposite i < 4 → (t : ℕ)
        → AllByRecursion (OnWay c r i) (map (ready_at t) (sends c d v s (opposite i)))
    unfolding sends
    sends_on_way s r i b o low t = go (grants c d v s (opposite i)) refl
      where
        go : (f : Bool) → grants c d v s (opposite i) ≡ f → AllByRecursion (OnWay c r i) (map (ready_at t) (sends c d v s (opposite i)))
        go true f =
            let g = granted c laws d v s (opposite i) f in
            let a : AllByRecursion (OnWay c s (winner c v s (opposite i))) (g.x ∷ g.xs) =
            subst (AllByRecursion (OnWay c s (winner c v s (opposite i)))) g.queue (good s (winner c v s (opposite i))) in
            let h : OnWay c r (opposite (opposite i)) (ready_at t g.x) = on_way_next s _ r (opposite i) t g.x a.0 g.way low b in
            rw g.sends (subst (λ (j : ℕ). OnWay c r j (ready_at t g.x)) o h, tt)
        go false f = rw f tt

    joins_fit : (r i : ℕ) → r < routers c → AllByRecursion (OnWay c r i) (joins c d v r i)
    joins_fit r i h = ⊎_elim (λ (e : beyond c r i ≡ []). rw (joins_none c d v r i e) tt)
        (λ (q : (s : ℕ) × (beyond c r i ≡ s ∷ [])).
        let b = beyond_back c r i q.0 h q.1 in rw (joins_from c d v r i q.0 q.1)
        (sends_on_way q.0 r i b.1 b.2 b.3 _)) (beyond_cases c r i)

    stays_on_way : (r i : ℕ) → AllByRecursion (OnWay c r i) (stays c d v r i)
    unfolding stays
    stays_on_way r i =
        cond_both (leaves c d v r i) _ _ (AllByRecursion (OnWay c r i)) (λ _. All-drop _ 1 _ (good r i)) (λ _. good r i)

    pub after_queue : (r i : ℕ) → inside c r i ≡ true → (after c d v).queue r i ≡ stays c d v r i ++ joins c d v r i
    unfolding after stays
    after_queue r i h = cond-true _ _ _ h

    pub on_way_after : AllOnWay c (after c d v)
    unfolding after stays
    on_way_after r i =
        cond_both (inside c r i) _ [] (AllByRecursion (OnWay c r i))
        (λ h. All-append _ _ _ (stays_on_way r i) (joins_fit r i (inside_parts c r i h).0)) (λ _. tt)

-- the payloads of one source and destination on the way up to place k, the nearest to the destination first
unfoldable pub underway : {P : Type 0} → Machine → ℕ → ℕ → View P → ℕ → List P
underway c s e v zero = flow s e (v.queue s 4)
underway c s e v (suc k) = flow s e (v.queue (track c s e (suc k)).0 (track c s e (suc k)).1) ++ underway c s e v k

module _ {P : Type 0} (c : Machine) (laws : Lawful c) (d : ℕ) (v : View P) (good : AllOnWay c v) (s e : ℕ) (hs : s < routers c)
    (he : e < routers c) where
  only_on : (k : ℕ) → k ≤ distance c s e → (w : ℕ) (x : Packet P) (xs : List (Packet P)) → v.queue (track c s e k).0 w ≡ x ∷ xs
      → between s e x ≡ true → w ≡ (track c s e k).1
  unfolding between
  only_on k h w x xs q b =
      let p = and_parts (eqb x.source s) (eqb x.destination e) b in
      let es : x.source ≡ s = eqb-true _ _ p.0 in
      let ed : x.destination ≡ e = eqb-true _ _ p.1 in
      let a : AllByRecursion (OnWay c (track c s e k).0 w) (x ∷ xs) = subst (AllByRecursion (OnWay c (track c s e k).0 w)) q (good (track c s e k).0 w) in
      let g : OnWay c (track c s e k).0 (track c s e k).1 x = record {
        destination = a.0.destination;
        source = a.0.source;
        k = k;
        within = omega (arith, ap₂ (distance c) es ed);
        here = ap₂ (λ (y z : ℕ). track c y z k) es ed;
      } in
      on_way_only c laws (track c s e k).0 w (track c s e k).1 x x refl refl a.0 g

  split : (r i : ℕ) → inside c r i ≡ true → flow s e (v.queue r i) ++ flow s e (joins c d v r i)
      ≡ flow s e (goes c d v r i) ++ flow s e ((after c d v).queue r i)
  split r i h = grind (
    arith,
    append_assoc,
    goes_stays c d v r i,
    after_queue c laws d v good r i h,
    flow_append s e (goes c d v r i) (stays c d v r i),
    flow_append s e (stays c d v r i) (joins c d v r i),
  )

  on_out : (k : ℕ) → k ≤ distance c s e → flow s e (goes c d v (track c s e k).0 (track c s e k).1)
      ≡ flow s e (sends c d v (track c s e k).0 (towards c (track c s e k).0 e))
  on_out k h = goes_sends c laws d v s e (track c s e k).0 (track c s e k).1 (only_on k h)

  on_joins : (k : ℕ) → k < distance c s e → flow s e (joins c d v (track c s e (suc k)).0 (track c s e (suc k)).1)
      ≡ flow s e (goes c d v (track c s e k).0 (track c s e k).1)
  on_joins k h =
      let n = next_track c laws s e hs he k h in
      ap (flow s e) (joins_from c d v _ _ _ n.back) ∙ flow_ready s e _ _
      ∙ ap (λ (p : ℕ). flow s e (sends c d v (track c s e k).0 p)) n.way ∙ sym (on_out k (omega arith))

  underway_after : (k : ℕ) → k ≤ distance c s e → underway c s e v k
      ≡ flow s e (goes c d v (track c s e k).0 (track c s e k).1) ++ underway c s e (after c d v) k
  unfolding underway track flow
  underway_after zero h =
      grind (arith, append-nil, joins_none c d v s 4 (beyond_own c s), split s 4 (inside_from c s 4 hs (omega arith)))
  underway_after (suc k) h =
      let o = on_track c laws s e hs he (suc k) h in
      let ih = underway_after k (omega arith) in
      let on = on_joins k (omega arith) in
      let parts = split _ _ (inside_from c _ _ o.router o.side) in
      grind (arith, append_assoc, ih, on, parts)

  -- the end of the way
  track_end : (track c s e (distance c s e)).0 ≡ e
  track_end =
      let o = on_track c laws s e hs he (distance c s e) (omega arith) in
      grind (arith, o.left, laws.nearer (track c s e (distance c s e)).0 e o.router he)

  pub underway_step : underway c s e v (distance c s e) ≡ flow s e (sends c d v e 4) ++ underway c s e (after c d v) (distance c s e)
  underway_step =
      let k : ℕ = distance c s e in
      grind (arith, underway_after k (omega arith), on_out k (omega arith), track_end, laws.arrived e he)
