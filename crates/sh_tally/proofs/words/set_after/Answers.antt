use Rattle.sh_tally.proofs.WordLemmas.{none_set, set_used}
use Rattle.sh_tally.proofs.words.set_after.Goals as goal
use Rattle.sh_tree.specs.standard.program.Trees as trees

pub returns-then-sets : goal.returns-then-sets
returns-then-sets c = λ b. set_used (trees.parameter_of b c.args.parameter) c.args.action c.args.known c.set.result (c.set.ensures b)

pub returns-else-sets : goal.returns-else-sets
returns-else-sets c = none_set c.args.parameter c.args.action c.args.known (c.sets.ensures c.if-sets.false)
