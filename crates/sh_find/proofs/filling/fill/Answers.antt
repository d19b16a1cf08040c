use Rattle.std.proofs.Common.{map, subst, sym}
use Rattle.std.specs.List.Sorted.{IsNonDecreasingBy, IsPermutation}
use Rattle.sh_tree.specs.Commands.{commands_of}
use Rattle.sh_tree.specs.declared.tree.Command.{out-Command}
use Rattle.sh_find.proofs.filling.fill.Goals as goal

pub filled-requires-clause-commands : goal.filled-requires-clause-commands
filled-requires-clause-commands c =
    subst (λ cs. IsPermutation (commands_of c.args.tree.now) (map (λ z. z.now) cs)) (sym c.deref.ensures.value) c.in_ok-commands.ensures.same

pub filled-requires-clause-ordered : goal.filled-requires-clause-ordered
filled-requires-clause-ordered c =
    subst (λ cs. IsNonDecreasingBy (λ z. (out-Command z.now).number) cs) (sym c.deref.ensures.value) c.in_ok-commands.ensures.ordered
