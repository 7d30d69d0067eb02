-- A test that antt computes at every contested set of sides, by itself where it is contested.
use Rattle.std.specs.Prelude.{◌≡◌, ℕ, Bool, true, not, ◌||◌}
use Rattle.std.proofs.Common.{⊎_elim}
use Rattle.std.proofs.lemmas.Bool.{both_ways, not-true, or_cases}
use Rattle.rules.specs.Arbiters.{contested}
use Rattle.rules.specs.Contested.{few_sides}
use Rattle.rules.proofs.Everywhere.{everywhere, each}

abbrev pub where_contested : (ℕ → Bool) → ℕ → Bool
where_contested test sides = not (contested sides) || test sides

pub at_each_set : (test : ℕ → Bool) → everywhere 32 (where_contested test) ≡ true → (sides : ℕ) → contested sides ≡ true → test sides ≡ true
at_each_set test all sides asked =
    ⊎_elim (λ none. absurd (both_ways (contested sides) (not-true (contested sides) none) asked)) (λ passes. passes)
    (or_cases (not (contested sides)) (test sides) (each 32 (where_contested test) all sides (few_sides sides asked)))
