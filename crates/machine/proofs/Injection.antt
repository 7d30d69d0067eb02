-- A packet injected where its domain holds no other is alone in its router's own queue.
use Rattle.std.proofs.Common.{◌≡◌, ℕ, ◌<◌, Bool, cond, eqb, List, [], ◌∷◌, ◌++◌, refl, ◌∙◌, ap₂, arith}
use Rattle.std.proofs.lemmas.List.{nil_from_length}
use Rattle.std.proofs.lemmas.Bool.{cond-true, eq-eqb, and_from}
use Rattle.machine.specs.Calls.{fresh}
use Rattle.machine.specs.Machine.{Machine, routers}
use Rattle.machine.specs.Packets.{Packet, View}
use Rattle.machine.proofs.Balance.{all_held, all_held_added}
use Rattle.machine.proofs.Lone.{Lone, queue_le}
use Rattle.machine.proofs.OnWay.{on_way_added}
use Rattle.machine.proofs.OwnMachine.{added}
use Rattle.machine.proofs.QueueNumbers.{inside_from}
use Rattle.machine.proofs.Track.{AllOnWay}

module _ {P : Type 0} (c : Machine) (d : ℕ) (v : View P) (good : AllOnWay c v) (empty : all_held c v ≡ 0)
    (r e : ℕ) (x : P) (hr : r < routers c) (he : e < routers c) where
  pub alone_there : (added c r (fresh v.cycle r e x) v).queue r 4 ≡ fresh v.cycle r e x ∷ []
  unfolding added
  alone_there =
      let none_there : v.queue r 4 ≡ [] = nil_from_length _ (omega (arith, queue_le c v r 4 hr (omega arith))) in
      cond-true _ _ _ (inside_from c r 4 hr (omega arith))
      ∙ ap₂ (λ (q : List (Packet P)) (b : Bool). q ++ cond b (fresh v.cycle r e x ∷ []) []) none_there
      (and_from (eqb r r) (eqb 4 4) (eq-eqb r r refl) refl)

  unfoldable pub alone : Lone c d r e x (added c r (fresh v.cycle r e x) v)
  unfolding fresh added
  alone = record {
    good = on_way_added c v good r e x hr he;
    one = omega (arith, all_held_added c v r (fresh v.cycle r e x) hr);
    at = r;
    side = 4;
    low = hr;
    five = omega arith;
    y = fresh v.cycle r e x;
    queue = alone_there;
    destination = refl;
    source = refl;
    payload = refl;
  }
