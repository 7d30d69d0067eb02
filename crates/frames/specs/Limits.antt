-- What of a plan the program `meshrun` does not allow.
use Rattle.std.specs.Prelude.{ℕ, List, ◌++◌, cond, Some, None, Option, nat_lt, codes, decimal}
use Rattle.schedule.specs.declared.refusal.Refusal.{Refusal}
use Rattle.schedule.specs.declared.refusal.Refusal.TheVariants.{SizeOutOfLimits}
use Rattle.schedule.specs.declared.sizes.Size.TheVariants.{Width}
use Rattle.schedule.specs.declared.sizes.Size.TheVariants as Size
use Rattle.schedule.specs.declared.sizes.Sizes.{Sizes}
use Rattle.schedule.specs.Timetable.{routers}
use Rattle.frames.specs.declared.limits.Excess.{Excess}
use Rattle.frames.specs.declared.limits.Excess.TheVariants.{Routers, Domains}

-- how many routers, and how many domains, it allows
abbrev pub allowed : Excess → ℕ
allowed Routers = 16
allowed Domains = 4

abbrev pub excess : Sizes → Option Excess
excess sizes =
    cond (nat_lt (allowed Routers) (routers sizes)) (Some Routers)
    (cond (nat_lt (allowed Domains) sizes.domains) (Some Domains) None)

-- the refusal by which it is told: too many routers are too many columns
abbrev pub refusal_of : Excess → Refusal
refusal_of Routers = SizeOutOfLimits Width
refusal_of Domains = SizeOutOfLimits Size.Domains

-- and in print
abbrev pub excess_text : Excess → List ℕ
excess_text Routers = codes "more than " ++ decimal (allowed Routers) ++ codes " routers"
excess_text Domains = codes "more than " ++ decimal (allowed Domains) ++ codes " domains"
