-- A packet alone that is due in a cycle: each call delivers it in that cycle, or leaves it due.
use Rattle.std.proofs.Common.{◌≡◌, ℕ, ◌+◌, ◌<◌, ◌≤◌, max, true, false, eqb, ◌⊎◌, List, [], ◌∷◌, Ok, Err, sym, refl, ap, ◌∙◌, subst, ap₂, inl, inr, ⊎_elim, arith}
use Rattle.std.specs.List.{Contains}
use Rattle.std.proofs.lemmas.Bool.{both_ways, cases_lt, cases_Bool}
use Rattle.machine.specs.Calls.{Answer, Lengths, if_accepted, fresh}
use Rattle.machine.specs.Cycle.{after, delivers}
use Rattle.machine.specs.Machine.{Machine, beyond, domains, hop, routers, owner, towards}
use Rattle.machine.specs.Packets.{View}
use Rattle.machine.specs.Promise.{Sometime, OnlyAfter, Before, is_step, injects, Ran, Accepts, Injected, Delivers, Path, home}
use Rattle.machine.specs.Runs.{Event, Asked, inject, room, step, asked, happens, next, concerns, deliveries}
use Rattle.machine.specs.Tables.{Tables, view}
use Rattle.machine.proofs.Checks.{accepted_step}
use Rattle.machine.proofs.Home.{side_of_path, at_turn, past_turn, home_same, home_next, home_ge}
use Rattle.machine.proofs.Laws.{Kept}
use Rattle.machine.proofs.Links.{beyond_low}
use Rattle.machine.proofs.Lone as lone
use Rattle.machine.proofs.Lone.{Lone, Fate, fate, Onward, still_held}
use Rattle.machine.proofs.Marks.{arrives, delivered, undelivered}
use Rattle.machine.proofs.OneCall.{next_intact, other_view, own_answered, own_view, own_delivered}
use Rattle.machine.proofs.OwnMachine.{answer_from, added, own_answer, own_next, own_deliveries}
use Rattle.machine.proofs.Soundness.{Intact}
use Rattle.schedule.specs.declared.refusal.Refusal.{Refusal}

unlike : {A : Type 0} (n : ℕ) (why : Refusal) → ◌≡◌ {A = Answer} (Ok n) (Err why) → A
unlike n why e = absurd cc

same_ok : (n k : ℕ) → ◌≡◌ {A = Answer} (Ok n) (Ok k) → n ≡ k
same_ok n k e = cc

module _ {P : Type 0} (c : Machine) (kept : Kept c) (p : Injected P) (hd : p.domain < domains c) (he : p.destination < routers c)
    (h : ℕ) where
  -- alone on its path, and home in cycle h
  pub record Due (v : View P) : Type 0 where
    pub lone : Lone c p.domain p.source p.destination p.payload v
    pub path : List ℕ
    pub walk : Path c p.destination (lone).at path
    pub due : home c p.domain (lone).at path (max v.cycle (lone).y.ready) ≡ h

  due_ge : (v : View P) → Due v → v.cycle ≤ h
  due_ge v u =
      let l = u.lone in
      let late : ℕ = max v.cycle l.y.ready in
      omega (arith, u.due, home_ge c kept.timed p.domain hd p.destination u.path l.at late u.walk)

  side_first : (a : ℕ) (path : List ℕ) → Path c p.destination a path → side_of_path path ≡ towards c a p.destination
  unfolding side_of_path Path
  side_first a [] w = sym w
  side_first a (side ∷ sides) w = sym w.0

  -- a cycle delivers it in cycle h, or delivers nothing and leaves it due
  abbrev Step : View P → Type 0
  Step v = ((v.cycle ≡ h) × Contains (delivers c p.domain v) (arrives p v.cycle)) ⊎ ((delivers c p.domain v ≡ []) × Due (after c p.domain v))

  module _ (v : View P) (u : Due v) where
    abbrev it : Lone c p.domain p.source p.destination p.payload v
    it = u.lone

    abbrev S : ℕ → ℕ → Type 0
    S a w = Onward c kept.lawful kept.depth_some p.domain p.source p.destination he p.payload v a w

    -- home from where it stands, by a path, starting in a cycle
    abbrev H : List ℕ → ℕ → ℕ
    H path cycle = home c p.domain it.at path cycle

    on : (a ready : ℕ) → S a ready → (path : List ℕ) → Path c p.destination a path
        → home c p.domain a path (max (v.cycle + 1) ready) ≡ h → Step v
    unfolding after
    on a ready s path walk q =
        inr (
          still_held c kept.lawful kept.depth_some p.domain p.source p.destination he p.payload v it s.lone,
          record {
            lone = s.lone;
            path = path;
            walk = subst (λ (b : ℕ). Path c p.destination b path) (sym s.at) walk;
            due = ap₂ (λ (b x : ℕ). home c p.domain b path (max (v.cycle + 1) x)) s.at s.ready ∙ q;
          },
        )

    now : it.y.ready ≤ v.cycle → H u.path v.cycle ≡ h
    now k = ap (H u.path) (omega arith) ∙ u.due

    arrived : it.at ≡ p.destination → owner c it.at (towards c it.at p.destination) v.cycle ≡ p.domain
        → (path : List ℕ) → Path c p.destination it.at path → H path v.cycle ≡ v.cycle
    unfolding Path home
    arrived q o [] walk =
        at_turn c kept.timed p.domain hd it.at 4 v.cycle (ap (λ (b : ℕ). owner c it.at b v.cycle) (sym walk) ∙ o)
    arrived q o (side ∷ sides) walk =
        absurd (walk.1 (sym walk.0 ∙ (ap (λ (a : ℕ). towards c a p.destination) q ∙ kept.lawful.arrived p.destination he)))

    gone_on : (s : ℕ) → owner c it.at (towards c it.at p.destination) v.cycle ≡ p.domain
        → beyond c it.at (towards c it.at p.destination) ≡ s ∷ [] → S s (v.cycle + hop c)
        → (path : List ℕ) → Path c p.destination it.at path → H path v.cycle ≡ h → Step v
    unfolding Path
    gone_on s o b f [] walk due = absurd (let low = beyond_low c it.at _ s b in omega arith)
    gone_on s o b f (side ∷ sides) (named, other, (s', b', rest)) due =
        let some = kept.hop_some in
        let same : s' ≡ s = cc (b, b', named) in
        let turn : owner c it.at side v.cycle ≡ p.domain = ap (λ (x : ℕ). owner c it.at x v.cycle) (sym named) ∙ o in
        let next : H (side ∷ sides) v.cycle ≡ home c p.domain s' sides (v.cycle + hop c) =
        home_next c kept.timed p.domain hd side sides it.at s' v.cycle b'
        ∙ ap (λ (x : ℕ). home c p.domain s' sides (x + hop c)) (at_turn c kept.timed p.domain hd it.at side v.cycle turn) in
        let later : max (v.cycle + 1) (v.cycle + hop c) ≡ v.cycle + hop c = omega arith in
        on s (v.cycle + hop c) f sides (subst (λ (x : ℕ). Path c p.destination x sides) same rest)
        (ap₂ (λ (x y : ℕ). home c p.domain x sides y) (sym same) later ∙ (sym next ∙ due))

    by_fate : Fate c kept.lawful kept.depth_some p.domain p.source p.destination he p.payload v it → Step v
    by_fate (lone.arrives q o k i) = inl (sym (arrived q o u.path u.walk) ∙ now k, i)
    by_fate (lone.goes_on s o k b n f) = gone_on s o b f u.path u.walk (now k)
    by_fate (lone.waits n f) = on it.at it.y.ready f u.path u.walk (⊎_elim
        (λ (k : v.cycle < it.y.ready). ap (H u.path) (omega arith) ∙ u.due)
        (λ (k : it.y.ready ≤ v.cycle).
        let side : ℕ = side_of_path u.path in
        let other : owner c it.at side v.cycle ≡ p.domain → ⊥ =
        λ o. n (ap (λ (b : ℕ). owner c it.at b v.cycle) (sym (side_first it.at u.path u.walk)) ∙ o) k in
        ap (H u.path) (omega arith) ∙ (sym (home_same c kept.timed p.domain hd u.path it.at v.cycle (v.cycle + 1)
        (past_turn c kept.timed p.domain hd it.at side v.cycle other)) ∙ now k))
        (cases_lt v.cycle it.y.ready))

    due_step : Step v
    due_step = by_fate (fate c kept.lawful kept.depth_some p.domain p.source p.destination he p.payload v it)

  -- one call of a run: the packet is delivered in its cycle, or is not delivered and stays due, and then no step has run that cycle or a later one
  module _ (t : Tables P) (ok : Intact c t) (e : Event P) (due : Due (view c t p.domain)) (none : Accepts c p.domain t e → ⊥) where
    abbrev d : ℕ
    d = p.domain

    abbrev v : View P
    v = view c t p.domain

    abbrev Goal : Type 0
    Goal = Delivers c p h t e ⊎ (((n : ℕ) × Delivers c p n t e → ⊥) × Due (view c (next c t e) d) × ((n : ℕ) → h ≤ n → Ran c n t e → ⊥))

    unmoved : view c (next c t e) d ≡ v → ((n : ℕ) → Ran c n t e → ⊥) → Goal
    unmoved same still = inr ((λ w. still w.0 w.1.ran), subst Due (sym same) due, (λ n l r. still n r))

    no_step : {call : Asked P} → asked c e ≡ call → is_step call ≡ false → (n : ℕ) → Ran c n t e → ⊥
    no_step q s n r = both_ways _ (ap is_step q ∙ s) r.steps

    by_other : {call : Asked P} → asked c e ≡ call → is_step call ≡ false → concerns d call ≡ false → Goal
    by_other q s k = unmoved (other_view c kept t ok e d hd (ap (concerns d) q ∙ k)) (no_step q s)

    by_inject : (l : Lengths) (a b : ℕ) (x : P) (f : ℕ) → asked c e ≡ inject l a f b x → eqb f d ≡ true
        → (w : Answer) → own_answer c v (inject l a f b x) ≡ w → Goal
    unfolding is_step injects concerns own_next if_accepted
    by_inject l a b x f q k (Ok n) w =
        let mine = ap (concerns d) q ∙ k in
        absurd (none (record {
          injects_one = ap (injects d) q ∙ k;
          count = n;
          accepted = own_answered c kept t ok e d hd mine ∙ (ap (own_answer c v) q ∙ w);
        }))
    by_inject l a b x f q k (Err why) w =
        let mine = ap (concerns d) q ∙ k in
        unmoved (own_view c kept t ok e d hd mine ∙ (ap (own_next c d v) q
        ∙ ap (λ (a' : Answer). if_accepted a' (added c a (fresh v.cycle a b x) v) v) w)) (no_step q refl)

    by_step : (l : Lengths) → asked c e ≡ step l → (w : Answer) → own_answer c v (step l) ≡ w → Goal
    unfolding is_step concerns own_next own_deliveries own_answer answer_from if_accepted after
    by_step l q (Err why) w =
        let mine : concerns d (asked c e) ≡ true = ap (concerns d) q in
        let ans : (happens c t e).answer ≡ Err why = own_answered c kept t ok e d hd mine ∙ (ap (own_answer c v) q ∙ w) in
        unmoved (own_view c kept t ok e d hd mine ∙ (ap (own_next c d v) q ∙ ap (λ (a : Answer). if_accepted a (after c d v) v) w))
        (λ n r. cc (r.ran, ans))
    by_step l q (Ok n) w =
        let mine : concerns d (asked c e) ≡ true = ap (concerns d) q in
        let ans : (happens c t e).answer ≡ Ok n = own_answered c kept t ok e d hd mine ∙ (ap (own_answer c v) q ∙ w) in
        let cycle : v.cycle ≡ n = accepted_step c true l v.cycle n w in
        let out : deliveries c t.cycle d (happens c t e) ≡ delivers c d v =
        own_delivered c kept t ok e d hd mine ∙ (ap (own_deliveries c d v) q ∙ ap (λ (a : Answer). if_accepted a (delivers c d v) []) w) in
        let then : view c (next c t e) d ≡ after c d v =
        own_view c kept t ok e d hd mine ∙ (ap (own_next c d v) q ∙ ap (λ (a : Answer). if_accepted a (after c d v) v) w) in
        ⊎_elim
        (λ (g : (v.cycle ≡ h) × Contains (delivers c d v) (arrives p v.cycle)).
        let ran : Ran c h t e = record { steps = ap is_step q; ran = ans ∙ ap (λ (x : ℕ). Ok x) (sym cycle ∙ g.0) } in
        let there = subst (λ (x : ℕ). Contains (deliveries c t.cycle d (happens c t e)) (arrives p x)) g.0
        (subst (λ l. Contains l (arrives p v.cycle)) (sym out) g.1) in
        inl (delivered c p he t e h ran there))
        (λ (g : (delivers c d v ≡ []) × Due (after c d v)).
        inr (
          undelivered c p he t e (out ∙ g.0),
          subst Due (sym then) g.1,
          (λ k le r. let same : n ≡ k = cc (r.ran, ans) in absurd (omega (arith, due_ge (after c d v) g.1))),
        ))
        (due_step v due)

    one_call : Goal
    unfolding is_step concerns own_next
    one_call = go (asked c e) refl
      where
        named : (n : ℕ) → (eqb n d ≡ true → Goal) → (eqb n d ≡ false → Goal) → Goal
        named n own other = ⊎_elim own other (cases_Bool (eqb n d))

        go : (call : Asked P) → asked c e ≡ call → Goal
        go (inject l a f b x) q = named f (λ k. by_inject l a b x f q k _ refl) (λ k. by_other q refl k)
        go (room l a f) q =
            named f (λ k. unmoved (own_view c kept t ok e d hd (ap (concerns d) q ∙ k) ∙ ap (own_next c d v) q) (no_step q refl))
            (λ k. by_other q refl k)
        go (step l) q = by_step l q _ refl

  pub run_home : (es : List (Event P)) (t : Tables P) (so : Type 0) → (so → ⊥) → Intact c t → Due (view c t p.domain)
      → OnlyAfter c (Accepts c p.domain) (λ u f. (n : ℕ) × Delivers c p n u f) so t es
      → Sometime c (λ u f. (n : ℕ) × (h ≤ n) × Ran c n u f) t es
      → Before c (λ u f. (n : ℕ) × Delivers c p n u f → ⊥) (Delivers c p h) t es
  unfolding OnlyAfter Sometime Before
  run_home [] t so not ok due un ra = ra
  run_home (e ∷ es) t so not ok due (na, un) ra = ⊎_elim (λ g. inl g)
      (λ (x : ((n : ℕ) × Delivers c p n t e → ⊥) × Due (view c (next c t e) p.domain) × ((n : ℕ) → h ≤ n → Ran c n t e → ⊥)). ⊎_elim
      (λ (r : (n : ℕ) × (h ≤ n) × Ran c n t e). absurd (x.2 r.0 r.1 r.2))
      (λ r. inr (
        x.0,
        run_home es (next c t e) (so ⊎ ((n : ℕ) × Delivers c p n t e)) (⊎_elim not x.0) (next_intact c kept t ok e)
            x.1 un r,
      ))
      ra)
      (one_call t ok e due (λ a. not (na a)))
