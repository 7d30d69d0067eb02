-- Through every call of a domain's own machine each of its packets is at a queue of its way.
use Rattle.std.proofs.Common.{◌≡◌, ℕ, ◌<◌, true, ◌&&◌, eqb, List, [], ◌∷◌, sym, arith}
use Rattle.std.specs.List.{AllByRecursion}
use Rattle.std.proofs.ByRecursion.{All-append}
use Rattle.std.proofs.lemmas.Bool.{cond_both, and_parts, eqb-true}
use Rattle.machine.specs.Calls.{fresh}
use Rattle.machine.specs.Machine.{Machine, routers, inside}
use Rattle.machine.specs.Packets.{View}
use Rattle.machine.specs.Runs.{Asked, inject, room, step}
use Rattle.machine.proofs.Checks.{accepted_injection}
use Rattle.machine.proofs.Laws.{Lawful}
use Rattle.machine.proofs.OwnMachine.{answer_from, added, own_answer, own_next, own_run, nothing, if_both}
use Rattle.machine.proofs.Track.{track, OnWay, AllOnWay, on_way_after}

-- a packet just injected is at the beginning of its way
module _ {P : Type 0} (c : Machine) (v : View P) (good : AllOnWay c v) (r f : ℕ) (x : P) (hr : r < routers c) (hf : f < routers c) where
  pub on_way_added : AllOnWay c (added c r (fresh v.cycle r f x) v)
  unfolding added fresh track
  on_way_added a i =
      cond_both (inside c a i) _ [] (AllByRecursion (OnWay c a i)) (λ _. All-append _ _ _ (good a i)
      (cond_both (eqb a r && eqb i 4) (fresh v.cycle r f x ∷ []) [] (AllByRecursion (OnWay c a i)) new (λ _. tt))) (λ _. tt)
    where
      new : (eqb a r && eqb i 4) ≡ true → AllByRecursion (OnWay c a i) (fresh v.cycle r f x ∷ [])
      new e = let p = and_parts (eqb a r) (eqb i 4) e in (
        record {
          destination = hf;
          source = hr;
          k = 0;
          within = omega arith;
          here = λ j. (sym (eqb-true a r p.0) j, sym (eqb-true i 4 p.1) j);
        },
        tt,
      )

module _ {P : Type 0} (c : Machine) (laws : Lawful c) (d : ℕ) where
  pub on_way_next : (v : View P) → AllOnWay c v → (call : Asked P) → AllOnWay c (own_next c d v call)
  unfolding own_next own_answer answer_from
  on_way_next v good (inject l r n f x) = if_both (AllOnWay c) _ _ _ (λ k a.
      let p = accepted_injection c true l r n f _ _ k a in on_way_added c v good r f x p.0 p.1) good
  on_way_next v good (room l r n) = good
  on_way_next v good (step l) = if_both (AllOnWay c) _ _ _ (λ k a. on_way_after c laws d v good) good

  pub on_way_run : (v : View P) → AllOnWay c v → (calls : List (Asked P)) → AllOnWay c (own_run c d v calls)
  unfolding own_run
  on_way_run v good [] = good
  on_way_run v good (call ∷ calls) = on_way_run (own_next c d v call) (on_way_next v good call) calls

pub on_way_none : (P : Type 0) (c : Machine) → AllOnWay {P = P} c nothing
unfolding nothing
on_way_none P c r i = tt
