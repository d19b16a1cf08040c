use Rattle.std.proofs.Common.{◌&&◌, nat_lt, ap, ap₂, ◌∙◌}
use Rattle.sh_domain.specs.NumberSets.{numbers_of}
use Rattle.sh_domain.specs.declared.number_set.NumberSet.{NumberSet}
use Rattle.sh_drafts.proofs.NumberLemmas.{assured_numbers}
use Rattle.sh_drafts.proofs.sights.sight_of.Goals as goal

pub returns : goal.returns
returns c =
    assured_numbers c.args.names.now c.requires c.args.assured.now (numbers_of c.meet.new.self) (numbers_of c.meet-2.new.self) _
    (λ k. c.meet.ensures k ∙ ap₂ (λ a b. a && b) (ap (λ (s : NumberSet). numbers_of s k) c.vars.ensures) (c.below-all.ensures k ∙ ap (nat_lt k) c.count.ensures.count))
    (λ k. c.meet-2.ensures k ∙ ap₂ (λ a b. a && b) (ap (λ (s : NumberSet). numbers_of s k) c.functions.ensures) (c.below-all.ensures k ∙ ap (nat_lt k) c.count.ensures.count))
    c.args-2.ensures
