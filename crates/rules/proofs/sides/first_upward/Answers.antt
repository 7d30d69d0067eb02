use Rattle.rules.specs.Upward.{lowest_bit_of_twice}
use Rattle.rules.proofs.sides.first_upward.Goals as goal

pub returns-clause-wins : goal.returns-clause-wins
returns-clause-wins c = simp (c.from.ensures, c.from-2.ensures) (lowest_bit_of_twice c.args.start c.args.sides c.requires.0 c.requires.1)
