-- A run, as one domain has it, is a run of its own machine: isolated, in order, with nothing lost and no table unsound.
use Rattle.std.proofs.Common.{◌≡◌, ℕ, ◌*◌, ◌<◌, ◌≤◌, Bool, true, false, List, [], ◌∷◌, ◌++◌, length, get_or, take, sym, refl, ap, ◌∙◌, ap₂, arith}
use Rattle.std.proofs.lemmas.List.{get_or-take, length-take-le}
use Rattle.machine.specs.Calls.{check, answer, lengths, long_enough, opened, opening_answer, opening_refusal}
use Rattle.machine.specs.Machine.{Machine, depth, domains, inside, queues, routers}
use Rattle.machine.specs.Moves.{edit}
use Rattle.machine.specs.Packets.{View}
use Rattle.machine.specs.Promise.{Opens, Isolated, InOrder, NothingLost, NeverUnsound, payloads_in, payloads_out, count_in, count_out, held}
use Rattle.machine.specs.Runs.{Event, asked, next, run, new, concerns, calls_of, note, notes}
use Rattle.machine.specs.Tables.{Tables, no_packets, queue_at, packets, view}
use Rattle.machine.proofs.Balance.{all_held, own_balance}
use Rattle.machine.proofs.Checks.{not_unsound}
use Rattle.machine.proofs.Edits.{length_edit, getD_edit}
use Rattle.machine.proofs.Isolation.{answered}
use Rattle.machine.proofs.Laws.{Kept}
use Rattle.machine.proofs.Moved.{length_packets}
use Rattle.machine.proofs.OneCall.{answer_asked, next_intact, other_view, own_answered, own_view, own_delivered}
use Rattle.machine.proofs.Order.{own_order}
use Rattle.machine.proofs.OwnMachine.{own_notes, own_run, nothing}
use Rattle.machine.proofs.QueueNumbers.{number_inside, inside_from, queue_number_lt}
use Rattle.machine.proofs.Soundness.{Intact, sound_from}
use Rattle.machine.proofs.Totals.{total_ext}
use Rattle.machine.proofs.Views.{same_view, queue_in, queue_out, word_in, word_out}

module _ {P : Type 0} (c : Machine) (kept : Kept c) where
  intact_on : (es : List (Event P)) (t : Tables P) → Intact c t → Intact c (run c t es)
  unfolding run
  intact_on [] t ok = ok
  intact_on (e ∷ es) t ok = intact_on es (next c t e) (next_intact c kept t ok e)

  module _ (d : ℕ) (hd : d < domains c) where
    notes_on : (es : List (Event P)) (t : Tables P) → Intact c t → notes c d t es ≡ own_notes c d (view c t d) (calls_of c d es)
    unfolding notes note own_notes calls_of
    notes_on [] t ok = refl
    notes_on (e ∷ es) t ok = go (concerns d (asked c e)) refl (notes_on es (next c t e) (next_intact c kept t ok e))
      where
        go : (b : Bool) → concerns d (asked c e) ≡ b → notes c d (next c t e) es ≡ own_notes c d (view c (next c t e) d) (calls_of c d es)
            → notes c d t (e ∷ es) ≡ own_notes c d (view c t d) (calls_of c d (e ∷ es))
        go true k ih =
            let v = own_view c kept t ok e d hd k in
            rw k (ap₂ ◌∷◌
            (λ i. record {
              call = asked c e;
              answer = own_answered c kept t ok e d hd k i;
              deliveries = own_delivered c kept t ok e d hd k i;
              left = v i;
            })
            (ih ∙ ap (λ (u : View P). own_notes c d u (calls_of c d es)) v))
        go false k ih = rw k (ih ∙ ap (λ (u : View P). own_notes c d u (calls_of c d es)) (other_view c kept t ok e d hd k))

    view_on : (es : List (Event P)) (t : Tables P) → Intact c t → view c (run c t es) d ≡ own_run c d (view c t d) (calls_of c d es)
    unfolding run own_run calls_of
    view_on [] t ok = refl
    view_on (e ∷ es) t ok = go (concerns d (asked c e)) refl (view_on es (next c t e) (next_intact c kept t ok e))
      where
        go : (b : Bool) → concerns d (asked c e) ≡ b → view c (run c (next c t e) es) d
            ≡ own_run c d (view c (next c t e) d) (calls_of c d es)
            → view c (run c t (e ∷ es)) d ≡ own_run c d (view c t d) (calls_of c d (e ∷ es))
        go true k ih = rw k (ih ∙ ap (λ (u : View P). own_run c d u (calls_of c d es)) (own_view c kept t ok e d hd k))
        go false k ih = rw k (ih ∙ ap (λ (u : View P). own_run c d u (calls_of c d es)) (other_view c kept t ok e d hd k))

-- a new mesh: every queue is empty and every word 0, whatever the places held
module _ {P : Type 0} (c : Machine) (kept : Kept c) (t : Tables P) (opens : Opens c t) where
  long : (queues c ≤ length t.queues) × (queues c * depth c ≤ length t.places)
      × (queues c * depth c ≤ length t.payloads) × (queues c ≤ length t.words)
  unfolding long_enough lengths opening_answer opening_refusal check answer
  long = grind arith

  filled : {X : Type 0} (x z : X) (xs : List X) (q : ℕ) → queues c ≤ length xs → q < queues c
      → get_or (take (queues c) (edit 0 (queues c) (λ _ _. x) xs)) q z ≡ x
  filled x z xs q l h = get_or-take (queues c) _ q z h ∙ getD_edit xs (queues c) q (λ _ _. x) z h (omega arith)

  new_queue : (q : ℕ) → q < queues c → queue_at (new c t) q ≡ no_packets
  unfolding new opened queue_at
  new_queue q h = filled no_packets no_packets t.queues q long.0 h

  new_packets : (q : ℕ) → q < queues c → packets c (new c t) q ≡ []
  unfolding packets
  new_packets q h = rw (new_queue q h)

  new_intact : Intact c (new c t)
  unfolding new opened
  new_intact = record {
    exact = record {
      queue_table = length-take-le (queues c) _ (omega (arith, length_edit t.queues 0 (queues c) (λ _ _. no_packets), long.0));
      place_table = length-take-le _ _ long.1;
      payload_table = length-take-le _ _ long.2;
      word_table = length-take-le (queues c) _ (omega (arith, length_edit t.words 0 (queues c) (λ _ _. 0), long.3));
    };
    queue = λ q h. record {
      first = rw (new_queue q h) kept.depth_some;
      count = rw (new_queue q h) (omega arith);
      within = rw (new_packets q h) tt;
    };
  }

  new_view : (d : ℕ) → d < domains c → view c (new c t) d ≡ nothing
  unfolding new opened nothing view
  new_view d hd = same_view _ _ refl (λ r i. side r i (inside c r i) refl)
    where
      side : (r i : ℕ) (b : Bool) → inside c r i ≡ b → ((view c (new c t) d).queue r i ≡ []) × ((view c (new c t) d).word r i ≡ 0)
      side r i true e = let l = number_inside c r i d e hd in (
        queue_in c (new c t) d r i e ∙ new_packets _ l,
        word_in c (new c t) d r i e ∙ filled 0 0 t.words _ long.3 l,
      )
      side r i false e = (queue_out c (new c t) d r i e, word_out c (new c t) d r i e)

  module _ (es : List (Event P)) where
    pub run_intact : Intact c (run c (new c t) es)
    run_intact = intact_on c kept es (new c t) new_intact

    run_notes : (d : ℕ) → d < domains c → notes c d (new c t) es ≡ own_notes c d nothing (calls_of c d es)
    run_notes d hd = notes_on c kept d hd es (new c t) new_intact ∙ ap (λ (u : View P). own_notes c d u (calls_of c d es)) (new_view d hd)

    pub run_view : (d : ℕ) → d < domains c → view c (run c (new c t) es) d ≡ own_run c d nothing (calls_of c d es)
    run_view d hd = view_on c kept d hd es (new c t) new_intact ∙ ap (λ (u : View P). own_run c d u (calls_of c d es)) (new_view d hd)

pub held_seen : {P : Type 0} (c : Machine) → Kept c → (t : Tables P) → Intact c t → (d : ℕ) → d < domains c
    → held c t d ≡ all_held c (view c t d)
unfolding held all_held
held_seen c kept t ok d hd = total_ext (routers c) _ _ (λ r h. total_ext 5 _ _ (λ i l.
    sym (ap length (queue_in c t d r i (inside_from c r i h l)) ∙ length_packets c kept.depth_some t ok.exact _
    (queue_number_lt c r i d h l hd))))

module _ (P : Type 0) (c : Machine) (kept : Kept c) where
  pub isolated : Isolated P c
  isolated d hd t u ot ou es fs same = (
    run_notes c kept t ot es d hd ∙ (ap (own_notes c d nothing) same ∙ sym (run_notes c kept u ou fs d hd)),
    run_view c kept t ot es d hd ∙ (ap (own_run c d nothing) same ∙ sym (run_view c kept u ou fs d hd)),
  )

  pub in_order : InOrder P c
  in_order d s e hd hs he t ot es =
      let n = run_notes c kept t ot es d hd in
      let r = own_order {P = P} c kept.lawful d s e hs he (calls_of c d es) in
      (r.0, ap (payloads_in s e) n ∙ (r.1 ∙ ap (λ (l : List P). l ++ r.0) (sym (ap (payloads_out s e) n))))

  pub nothing_lost : NothingLost P c
  nothing_lost d hd t ot es =
      let n = run_notes c kept t ot es d hd in
      omega (
        arith,
        own_balance {P = P} c kept.lawful d (calls_of c d es),
        ap count_in n,
        ap count_out n,
        held_seen c kept _ (run_intact c kept t ot es) d hd,
        ap (all_held c) (run_view c kept t ot es d hd),
      )

  pub never_unsound : NeverUnsound P c
  unfolding answered
  never_unsound t ot es e h =
      let ok = run_intact c kept t ot es in
      not_unsound c _ _ _ (sound_from c _ ok) (asked c e) (sym (answer_asked c kept _ ok.exact e) ∙ h)
