use Rattle.std.proofs.Common.{nat_lt, sym, subst}
use Rattle.sh_domain.specs.NumberSets.{numbers_of}
use Rattle.sh_demands.specs.Blocks.{block_of}
use Rattle.sh_demands.specs.Reported.{HasReported}
use Rattle.sh_demands.proofs.BlockLemmas.{none_of, not_wanted}
use Rattle.sh_demands.proofs.drops.tell_block.Goals as goal

-- a block that is within the others adds nothing
pub returns-then-is_within : goal.returns-then-is_within
returns-then-is_within c = λ ps h.
    let a = c.args in
    let wanted = numbers_of a.set.now in
    subst (HasReported a.reports.now)
    (sym (none_of a.blocks.now.names.now wanted a.at (block_of a.index a.blocks.now.numbers.now)
    (λ k here. not_wanted (wanted k) (nat_lt k 4096) (numbers_of a.others.now k) (c.requires.others k) (c.is_within.ensures.0 c.if-is_within.true k here)) ps))
    h
