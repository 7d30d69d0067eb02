use Rattle.std.proofs.Common.{◌≡◌, true, eqb, sym, ap, ◌∙◌, arith, below_more}
use Rattle.std.proofs.lemmas.Bool.{eq-eqb, ne_eqb}
use Rattle.schedule.specs.declared.refusal.Refusal.TheVariants.{DomainWithoutSlot}
use Rattle.schedule.specs.Timetable.{share}
use Rattle.schedule.specs.Verdict.{answered, domain_check}
use Rattle.schedule.proofs.Refuse.{refused_at, refused_none}
use Rattle.schedule.proofs.allowed.AllowedSizes.check_domains.Goals as goal

pub returns-then-share-eq0 : goal.returns-then-share-eq0
unfolding domain_check
returns-then-share-eq0 c =
    let xs = c.args.slots.now in
    let none : eqb (share xs c.loop-domain.domain) 0 ≡ true = eq-eqb _ 0 (sym c.share.ensures.is ∙ c.if-share-eq0.true) in
    sym (ap answered
    (refused_at (λ d. eqb (share xs d) 0) c.args.self.sizes.domains DomainWithoutSlot
    c.loop-domain.domain (omega arith) c.loop-domain.invariant none))

pub loop-domain-preserved : goal.loop-domain-preserved
loop-domain-preserved c =
    below_more _ _ c.loop-domain.invariant
    (ne_eqb (share c.args.slots.now c.loop-domain.domain) 0 (λ e. c.if-share-eq0.false (c.share.ensures.is ∙ e)))

pub returns : goal.returns
unfolding domain_check
returns c =
    sym (ap answered
    (refused_none (λ d. eqb (share c.args.slots.now d) 0) c.args.self.sizes.domains DomainWithoutSlot
    (λ d l. c.loop-domain.invariant d (omega arith))))
