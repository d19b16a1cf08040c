use Rattle.std.proofs.Common.{fold, take}
use Rattle.sh_domain.specs.NumberSets.{numbers_of}
use Rattle.sh_demands.specs.DropWalks as walks
use Rattle.sh_demands.specs.Reported.{Adds}
use Rattle.sh_demands.specs.Blocks.{block_of}
use Rattle.sh_demands.proofs.drops.tell_block.Given as goal

-- what is reported so far is what is reported of the numbers so far
abbrev pub invariant-loop-number : goal.invariant-loop-number
invariant-loop-number l = Adds l.initial.reports l.reports (λ ps. fold (walks.plain_step l.blocks.names.now (numbers_of l.set) l.at) ps (take l.number-index (block_of l.index l.blocks.numbers.now)))
