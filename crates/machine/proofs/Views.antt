-- Moves of packets, and those of a cycle, as one domain sees them.
use Rattle.std.proofs.Common.{◌≡◌, ℕ, ◌+◌, ◌<◌, Bool, true, false, cond, List, [], ◌++◌, get_or, drop, sym, refl, ap, ◌∙◌, ap₂}
use Rattle.std.proofs.lemmas.Bool.{cond-true, cond-false}
use Rattle.machine.specs.Cycle.{leaves, joins, stays, next_word, after}
use Rattle.machine.specs.Machine.{Machine, domains, inside, queues, queue_number, depth}
use Rattle.machine.specs.Moves.{Moves, moved, cycle_moves, domain_of, side_of, router_of}
use Rattle.machine.specs.Packets.{Packet, View}
use Rattle.machine.specs.Tables.{Tables, packets, view}
use Rattle.machine.proofs.Moved.{Exact, Can, packets_moved, word_moved}
use Rattle.machine.proofs.QueueNumbers.{inside_parts, number_inside, domain_queue_number, side_queue_number, router_queue_number}

pub same_view : {P : Type 0} (u v : View P) → u.cycle ≡ v.cycle
    → ((r i : ℕ) → (u.queue r i ≡ v.queue r i) × (u.word r i ≡ v.word r i)) → u ≡ v
same_view u v e f = λ i. record { cycle = e i; queue = λ r s. (f r s).0 i; word = λ r p. (f r p).1 i }

-- a view at a router and side of the mesh, and outside
module _ {P : Type 0} (c : Machine) (t : Tables P) (d r i : ℕ) where
  pub queue_in : inside c r i ≡ true → (view c t d).queue r i ≡ packets c t (queue_number c r i d)
  unfolding view
  queue_in e = cond-true _ _ _ e

  pub word_in : inside c r i ≡ true → (view c t d).word r i ≡ get_or t.words (queue_number c r i d) 0
  unfolding view
  word_in e = cond-true _ _ _ e

  pub queue_out : inside c r i ≡ false → (view c t d).queue r i ≡ []
  unfolding view
  queue_out e = cond-false _ _ _ e

  pub word_out : inside c r i ≡ false → (view c t d).word r i ≡ 0
  unfolding view
  word_out e = cond-false _ _ _ e

-- any moves
module _ {P : Type 0} (c : Machine) (some : 0 < depth c) (t : Tables P) (exact : Exact c t) (s : Moves P) (cycle : ℕ)
    (can : (q : ℕ) → q < queues c → Can c s t q) (d : ℕ) (hd : d < domains c) (r i : ℕ) (e : inside c r i ≡ true) where
  number_lt : queue_number c r i d < queues c
  number_lt = number_inside c r i d e hd

  pub queue_moved : (view c (moved c s cycle t) d).queue r i
      ≡ cond (s.leaving (queue_number c r i d)) (drop 1 ((view c t d).queue r i)) ((view c t d).queue r i)
      ++ s.joining (queue_number c r i d)
  queue_moved =
      let q : ℕ = queue_number c r i d in
      queue_in c (moved c s cycle t) d r i e ∙ (packets_moved c some t exact s cycle q number_lt (can q number_lt)
      ∙ ap (λ (l : List (Packet P)). cond (s.leaving q) (drop 1 l) l ++ s.joining q) (sym (queue_in c t d r i e)))

  pub words_moved : (view c (moved c s cycle t) d).word r i ≡ s.word (queue_number c r i d)
  words_moved = word_in c (moved c s cycle t) d r i e ∙ word_moved c some t exact s cycle (queue_number c r i d) number_lt

-- those of a cycle are the domain's own cycle
module _ {P : Type 0} (c : Machine) (some : 0 < depth c) (t : Tables P) (exact : Exact c t)
    (can : (q : ℕ) → q < queues c → Can c (cycle_moves c t) t q) (d : ℕ) (hd : d < domains c) where
  at_number : {X : Type 0} (F : ℕ → ℕ → ℕ → X) (r i : ℕ) → inside c r i ≡ true
      → let q = queue_number c r i d in F (domain_of c q) (router_of c q) (side_of c q) ≡ F d r i
  at_number F r i e =
      let p = inside_parts c r i e in
      let dq = domain_queue_number c r i d p.0 p.1 hd in
      let rq = router_queue_number c r i d p.0 p.1 hd in
      let sq = side_queue_number c r i d p.0 p.1 hd in
      λ j. F (dq j) (rq j) (sq j)

  ran : Tables P
  ran = moved c (cycle_moves c t) (t.cycle + 1) t

  ran_side : (r i : ℕ) (b : Bool) → inside c r i ≡ b
      → ((view c ran d).queue r i ≡ (after c d (view c t d)).queue r i) × ((view c ran d).word r i ≡ (after c d (view c t d)).word r i)
  unfolding ran after stays cycle_moves
  ran_side r i true e =
      let v : List (Packet P) = (view c t d).queue r i in (
        queue_moved c some t exact (cycle_moves c t) (t.cycle + 1) can d hd r i e
            ∙ (ap₂ (λ (o : Bool) (n : List (Packet P)). cond o (drop 1 v) v ++ n)
            (at_number (λ (x y z : ℕ). leaves c x (view c t x) y z) r i e)
            (at_number (λ (x y z : ℕ). joins c x (view c t x) y z) r i e)
            ∙ sym (cond-true _ _ _ e)),
        words_moved c some t exact (cycle_moves c t) (t.cycle + 1) can d hd r i e
            ∙ (at_number (λ (x y z : ℕ). next_word c x (view c t x) y z) r i e ∙ sym (cond-true _ _ _ e)),
      )
  ran_side r i false e = (queue_out c ran d r i e ∙ sym (cond-false _ _ _ e), word_out c ran d r i e ∙ sym (cond-false _ _ _ e))

  pub cycle_seen : view c (moved c (cycle_moves c t) (t.cycle + 1) t) d ≡ after c d (view c t d)
  unfolding ran after moved view
  cycle_seen = same_view _ _ refl (λ r i. ran_side r i (inside c r i) refl)
