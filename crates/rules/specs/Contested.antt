-- A test that antt computes at every contested set of sides, turned into the fact at each of them.
use Rattle.std.specs.Prelude.{◌≡◌, ℕ, ◌<◌, Bool, true, ◌&&◌, nat_lt}
use Rattle.std.proofs.Common.{◌∙◌}
use Rattle.std.proofs.lemmas.Bool.{agree_below, agree_below_at, and_parts, ltb-true}
use Rattle.rules.specs.Arbiters.{contested}

pub few_sides : (sides : ℕ) → contested sides ≡ true → sides < 32
few_sides sides asked = ltb-true sides 32 (and_parts (nat_lt 0 sides) (nat_lt sides 32) asked).1

abbrev pub at_all_sets : (ℕ → Bool) → Bool
at_all_sets test = agree_below (λ sides. contested sides && test sides) contested 32

pub at_each_set : (test : ℕ → Bool) → at_all_sets test ≡ true → (sides : ℕ) → contested sides ≡ true → test sides ≡ true
at_each_set test all sides asked =
    let both = agree_below_at (λ s. contested s && test s) contested 32 sides all (few_sides sides asked) ∙ asked in
    (and_parts (contested sides) (test sides) both).1
