use Rattle.std.proofs.Common.{rules, tests}
use Rattle.std.proofs.lemmas.Iterator.{YieldsList-from_slice}
use Rattle.std.proofs.lemmas.Iterator.Search.{position_from_yields_List}
use Rattle.frames.proofs.Blocks.{feed_found}
use Rattle.frames.proofs.lines.feed_place.Goals as goal

pub returns : goal.returns
returns c =
    feed_found c.args.block.now _
    (position_from_yields_List _ _ _ _ c.position.ensures.ran (YieldsList-from_slice c.args.block.now cc) (λ x b q k. search (rules, tests)))
