-- A packet alone is first delivered exactly in its home cycle, and so by the bound.
use Rattle.std.proofs.Common.{◌≡◌, ℕ, ◌<◌, ◌≤◌, max, true, List, [], ◌∷◌, Ok, sym, refl, ap, ◌∙◌, subst, inl, inr, arith}
use Rattle.std.proofs.lemmas.Bool.{eq-eqb}
use Rattle.machine.specs.Calls.{Answer, if_accepted, fresh}
use Rattle.machine.specs.Machine.{Machine, domains, routers}
use Rattle.machine.specs.Packets.{Packet, View}
use Rattle.machine.specs.Promise.{Opens, Sometime, Before, Ran, Injected, Delivers, Path, bound, home, Alone, InTime, AtHome}
use Rattle.machine.specs.Runs.{Event, Asked, inject, lent_lengths, asked_by, asked, next, run, new, concerns, calls_of}
use Rattle.machine.specs.Tables.{Tables, view}
use Rattle.machine.proofs.Balance.{all_held}
use Rattle.machine.proofs.Checks.{accepted_injection}
use Rattle.machine.proofs.Home.{home_bound}
use Rattle.machine.proofs.Injection.{alone}
use Rattle.machine.proofs.Isolation.{answered}
use Rattle.machine.proofs.Laws.{Kept}
use Rattle.machine.proofs.OneCall.{answer_asked, next_intact, own_answered, own_view}
use Rattle.machine.proofs.OnWay.{on_way_none, on_way_run}
use Rattle.machine.proofs.OverRuns.{run_intact, run_view, held_seen}
use Rattle.machine.proofs.OwnMachine.{answer_from, added, own_answer, own_next, nothing}
use Rattle.machine.proofs.Soundness.{Intact}
use Rattle.machine.proofs.Track.{AllOnWay}
use Rattle.machine.proofs.Due.{Due, run_home}

-- straight after it is accepted
pub record Begun {P : Type 0} (c : Machine) (p : Injected P) (t : Tables P) (e : Event P) : Type 0 where
  pub domain_low : p.domain < domains c
  pub source_low : p.source < routers c
  pub destination_low : p.destination < routers c
  pub good : AllOnWay c (view c t p.domain)
  pub empty : all_held c (view c t p.domain) ≡ 0
  pub then : view c (next c t e) p.domain
      ≡ added c p.source (fresh t.cycle p.source p.destination p.payload) (view c t p.domain)

module _ {P : Type 0} (c : Machine) (kept : Kept c) (t : Tables P) (opens : Opens c t) (before : List (Event P)) (e : Event P)
    (p : Injected P)
    (later : List (Event P)) (al : Alone c p (run c (new c t) before) e later) where
  abbrev pub now : Tables P
  now = run c (new c t) before

  ok : Intact c now
  ok = run_intact c kept t opens before

  call : Asked P
  call = inject (lent_lengths c e 0 0) p.source p.domain p.destination p.payload

  asks_it : asked c e ≡ call
  unfolding asked asked_by call
  asks_it = ap (asked_by c e) al.injected

  limits : (p.source < routers c) × (p.destination < routers c) × (p.domain < domains c)
  unfolding answered answer_from call
  limits =
      let a : answered c now call ≡ Ok al.count =
      ap (answered c now) (sym asks_it) ∙ (sym (answer_asked c kept now ok.exact e) ∙ al.accepted) in
      let q = accepted_injection c _ (lent_lengths c e 0 0) p.source p.domain p.destination _ _ al.count a in
      (q.0, q.1, q.2)

  pub begun : Begun c p now e
  unfolding call own_next if_accepted view concerns
  begun =
      let d : ℕ = p.domain in
      let hd : d < domains c = limits.2 in
      let v : View P = view c now d in
      let calls : List (Asked P) = calls_of c d before in
      let mine : concerns d (asked c e) ≡ true = ap (concerns d) asks_it ∙ eq-eqb d d refl in
      let ans : own_answer c v call ≡ Ok al.count =
      ap (own_answer c v) (sym asks_it) ∙ (sym (own_answered c kept now ok e d hd mine) ∙ al.accepted) in
      let x : Packet P = fresh now.cycle p.source p.destination p.payload in
      record {
        domain_low = hd;
        source_low = limits.0;
        destination_low = limits.1;
        good = subst (AllOnWay c) (sym (run_view c kept t opens before d hd))
            (on_way_run c kept.lawful d nothing (on_way_none P c) calls);
        empty = sym (held_seen c kept now ok d hd) ∙ al.nothing_held;
        then = own_view c kept now ok e d hd mine ∙ (ap (own_next c d v) asks_it
            ∙ ap (λ (a : Answer). if_accepted a (added c p.source x v) v) ans);
      }

  at_home_from : (path : List ℕ) → let h = home c p.domain p.source path now.cycle in
      Path c p.destination p.source path → Sometime c (λ u f. (n : ℕ) × (h ≤ n) × Ran c n u f) (next c now e) later
      → Before c (λ u f. (n : ℕ) × Delivers c p n u f → ⊥) (Delivers c p h) (next c now e) later
  unfolding alone added fresh view
  at_home_from path walk ra =
      let b = begun in
      let h : ℕ = home c p.domain p.source path now.cycle in
      let v : View P = view c now p.domain in
      let same : max now.cycle now.cycle ≡ now.cycle = omega arith in
      let due : Due c kept p b.domain_low b.destination_low h (added c p.source
      (fresh now.cycle p.source p.destination p.payload) v) =
      record {
        lone = alone c p.domain v b.good b.empty p.source p.destination p.payload b.source_low b.destination_low;
        path = path;
        walk = walk;
        due = ap (home c p.domain p.source path) same;
      } in
      run_home c kept p b.domain_low b.destination_low h later (next c now e) ⊥ (λ f. f) (next_intact c kept now ok e)
      (subst (Due c kept p b.domain_low b.destination_low h) (sym b.then) due) al.none_accepted ra

pub at_home : (P : Type 0) (c : Machine) → Kept c → AtHome P c
at_home P c kept t opens before later e p path al walk ra = at_home_from c kept t opens before e p later al path walk ra

sometime_so : {P : Type 0} (c : Machine) (Q R : Tables P → Event P → Type 0) → ((t : Tables P) (e : Event P) → Q t e → R t e)
    → (es : List (Event P)) (t : Tables P) → Sometime c Q t es → Sometime c R t es
unfolding Sometime
sometime_so c Q R f [] t h = h
sometime_so c Q R f (e ∷ es) t (inl q) = inl (f t e q)
sometime_so c Q R f (e ∷ es) t (inr h) = inr (sometime_so c Q R f es (next c t e) h)

before_so : {P : Type 0} (c : Machine) (Q R S : Tables P → Event P → Type 0) → ((t : Tables P) (e : Event P) → R t e → S t e)
    → (es : List (Event P)) (t : Tables P) → Before c Q R t es → Sometime c S t es
unfolding Sometime Before
before_so c Q R S f [] t h = h
before_so c Q R S f (e ∷ es) t (inl q) = inl (f t e q)
before_so c Q R S f (e ∷ es) t (inr h) = inr (before_so c Q R S f es (next c t e) h.1)

-- the bound, since home is by the bound
pub in_time : (P : Type 0) (c : Machine) → Kept c → InTime P c
in_time P c kept t opens before later e p path al walk ra =
    let now : Tables P = run c (new c t) before in
    let b = begun c kept t opens before e p later al in
    let h : ℕ = home c p.domain p.source path now.cycle in
    let last : ℕ = bound c now.cycle p.domain path in
    let le : h ≤ last = home_bound c kept.timed p.domain b.domain_low p.destination path p.source now.cycle
    b.source_low walk in
    before_so c (λ u f. (n : ℕ) × Delivers c p n u f → ⊥) (Delivers c p h) _ (λ _ _ g. (h, le, g)) later (next c now e)
    (at_home P c kept t opens before later e p path al walk (sometime_so c (Ran c last) _ (λ _ _ r. (last, le, r)) later (next c now e) ra))
