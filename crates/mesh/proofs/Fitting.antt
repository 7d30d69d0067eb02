-- What tables that pass their checks are: long enough, with queue records that fit their places.
use Rattle.std.proofs.Common.{◌≡◌, ℕ, ◌+◌, ◌*◌, ◌<◌, ◌≤◌, Bool, true, [], ◌∷◌, get_or, None, Ok, sym, ◌∙◌, arith}
use Rattle.std.proofs.lemmas.Bool.{and_parts, leb-true, ltb-true}
use Rattle.schedule.specs.declared.geometry.Position.{Position}
use Rattle.schedule.specs.declared.plan.Plan.{Plan}
use Rattle.schedule.specs.declared.refusal.Refusal.TheVariants.{TableTooShort, UnsoundTable, OutsideMesh, NoSuchDomain, QueueFull}
use Rattle.schedule.specs.Verdict.{answered, earliest}
use Rattle.machine.specs.Calls.{Lengths, answer, check, injection_refusal, lengths, long_enough, own_queue}
use Rattle.machine.specs.Machine.{machine, depth, domains, queue_number, queues, routers}
use Rattle.machine.specs.Tables.{Tables, queue_at, sound}
use Rattle.mesh.specs.Answers.{table_checks}
use Rattle.mesh.specs.Heads.{no_queue, queue_count}
use Rattle.mesh.specs.Needed.{WithAnyRules}
use Rattle.mesh.specs.Scan as scan
use Rattle.mesh.proofs.Granted.{Lent}
use Rattle.mesh.proofs.Index.{port_in, queue_in}
use Rattle.mesh.proofs.Refused.{admits, first_passes, passed}
use Rattle.mesh.proofs.Scan.{below_at}
use Rattle.mesh.proofs.Soundness.{sound_same}

-- rules for a machine of which only the plan's numbers are asked
abbrev pub some_choice : ℕ → ℕ → ℕ × ℕ
some_choice word _ = (0, word)

abbrev pub some_route : Position → Position → ℕ
some_route _ _ = 0

-- four tables that are as long as a plan needs
pub record Long (plan : Plan) (l : Lengths) : Type 0 where
  pub queues_in : queue_count plan ≤ l.queues
  pub places_in : queue_count plan * plan.sizes.depth ≤ l.places
  pub payloads_in : queue_count plan * plan.sizes.depth ≤ l.payloads
  pub words_in : queue_count plan ≤ l.words

module _ (plan : Plan) (choose : ℕ → ℕ → ℕ × ℕ) (route : Position → Position → ℕ) where
  pub long : (l : Lengths) → long_enough (machine plan choose route) l ≡ true → Long plan l
  unfolding long_enough queues routers domains depth
  long l e =
      let p = and_parts _ _ e in
      let q = and_parts _ _ p.1 in
      let r = and_parts _ _ q.1 in
      record {
        queues_in = leb-true _ _ p.0;
        places_in = leb-true _ _ q.0;
        payloads_in = leb-true _ _ r.0;
        words_in = leb-true _ _ r.1;
      }

  module _ {P : Type 0} (t : Tables P) where
    pub fitting : long_enough (machine plan choose route) (lengths t 0 0) ≡ true → sound (machine plan choose route) t ≡ true → Lent plan t
    unfolding lengths scan.sound scan.sound_queue
    fitting e s =
        let l = long (lengths t 0 0) e in
        let all = sym (sound_same plan choose route t l.payloads_in) ∙ s in
        let one = λ (q : ℕ) (h : q < queue_count plan). and_parts _ _ (below_at (scan.sound_queue plan t.cycle t.queues t.places) (queue_count plan) q all h) in
        record {
          fit = record {
            queues_in = l.queues_in;
            places_in = l.places_in;
            firsts = λ q h. ltb-true _ _ (one q h).0;
            counts = λ q h. leb-true _ _ (and_parts _ _ (one q h).1).0;
          };
          payloads_in = l.payloads_in;
          words_in = l.words_in;
        }

    pub tables_fit : earliest (table_checks (machine plan choose route) t) ≡ None → Lent plan t
    tables_fit e =
        let p = first_passes (long_enough (machine plan choose route) (lengths t 0 0)) TableTooShort (check (sound (machine plan choose route) t) UnsoundTable ∷ []) e in
        fitting p.0 (first_passes (sound (machine plan choose route) t) UnsoundTable [] p.1).0

    -- what is known where a packet is admitted into queue q
    pub admits_to : (router domain destination q : ℕ)
        → Ok q ≡ answer (injection_refusal (machine plan choose route) (sound (machine plan choose route) t) (lengths t 0 0) router domain destination
        (queue_at t (own_queue (machine plan choose route) router domain)).count) (own_queue (machine plan choose route) router domain)
        → Lent plan t × (q < queue_count plan) × ((get_or t.queues q no_queue).count < plan.sizes.depth)
    unfolding injection_refusal own_queue queue_number routers domains depth queue_at
    admits_to router domain destination q e =
        let a = admits _ _ q e in
        let p = first_passes _ TableTooShort _ a.0 in
        let s = first_passes _ UnsoundTable _ p.1 in
        let i = first_passes _ OutsideMesh _ s.1 in
        let d = first_passes _ NoSuchDomain _ i.1 in
        let f = first_passes _ QueueFull _ d.1 in
        let side = port_in plan router 4 (ltb-true _ _ (and_parts _ _ i.0).0) (omega arith) in
        rw a.1 (
          fitting p.0 s.0,
          queue_in plan (router * 5 + 4) domain side (ltb-true _ _ d.0),
          ltb-true _ _ f.0,
        )

-- what a call knows once its first check, of the tables' lengths, has passed
pub long_checked : (plan : Plan) (l : Lengths) (passes : Bool) → WithAnyRules plan (λ m. passes ≡ long_enough m l)
    → Ok tt ≡ answered (check passes TableTooShort) → Long plan l
long_checked plan l passes is e =
    long plan some_choice some_route l (sym (is some_choice some_route) ∙ passed passes TableTooShort e)
