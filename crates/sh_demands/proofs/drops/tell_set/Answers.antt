use Rattle.std.proofs.Common.{ℕ, ◌*◌, List, fold, take_all, sym, subst, arith}
use Rattle.sh_domain.specs.NumberSets.{numbers_of}
use Rattle.sh_demands.specs.DropWalks.{plain_step}
use Rattle.sh_demands.specs.Reported.{HasReported}
use Rattle.sh_demands.proofs.BlockLemmas.{as_many, none_of, one_more_block}
use Rattle.sh_demands.proofs.RowLemmas.{none_within}
use Rattle.sh_demands.proofs.drops.tell_set.Goals as goal

-- a set without numbers adds nothing
pub returns-then-is_within : goal.returns-then-is_within
returns-then-is_within c = λ ps h.
    let a = c.args in
    let none = none_within (numbers_of a.set.now) (numbers_of c.new.result) c.new.ensures.numbers (c.is_within.ensures.0 c.if-is_within.true) in
    subst (HasReported a.reports.now) (sym (none_of a.blocks.now.names.now (numbers_of a.set.now) a.at a.blocks.now.numbers.now (λ k here. none k) ps)) h

pub loop-index-preserved : goal.loop-index-preserved
loop-index-preserved c = λ ps h.
    let a = c.args in
    subst (HasReported c.tell_block.new.reports)
    (one_more_block (plain_step a.blocks.now.names.now (numbers_of a.set.now) a.at) ps c.loop-index.index a.blocks.now.numbers.now)
    (c.tell_block.ensures _ (c.loop-index.invariant ps h))

pub returns : goal.returns
returns c = λ ps h.
    let a = c.args in
    let many = as_many a.blocks.now.names.now a.blocks.now.numbers.now a.blocks.now.order in
    subst (λ (ks : List ℕ). HasReported c.loop-index.reports (fold (plain_step a.blocks.now.names.now (numbers_of a.set.now) a.at) ps ks))
    (take_all (64 * c.loop-index.index) a.blocks.now.numbers.now (omega (arith, many)))
    (c.loop-index.invariant ps h)
