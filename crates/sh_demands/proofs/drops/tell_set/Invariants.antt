use Rattle.std.proofs.Common.{◌*◌, fold, take}
use Rattle.sh_domain.specs.NumberSets.{numbers_of}
use Rattle.sh_demands.specs.DropWalks as walks
use Rattle.sh_demands.specs.Reported.{Adds}
use Rattle.sh_demands.proofs.drops.tell_set.Given as goal

-- what is reported so far is what is reported of the blocks so far
abbrev pub invariant-loop-index : goal.invariant-loop-index
invariant-loop-index l = Adds l.initial.reports l.reports (λ ps. fold (walks.plain_step l.blocks.names.now (numbers_of l.set) l.at) ps (take (64 * l.index) l.blocks.numbers.now))
