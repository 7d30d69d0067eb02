-- The limits of a plan's six sizes: each is 1 or more, and at most this.
use Rattle.std.specs.Prelude.{ℕ}
use Rattle.schedule.specs.declared.sizes.Size.{Size}
use Rattle.schedule.specs.declared.sizes.Size.TheVariants.{Width, Height, Domains, Depth, Hop, Period}

abbrev pub largest : Size → ℕ
largest Width = 8
largest Height = 8
largest Domains = 8
largest Depth = 4
largest Hop = 8
largest Period = 64
