use Rattle.std.proofs.Common.{length}
use Rattle.sh_tree.specs.standard.Words.{words_of}
use Rattle.sh_quote.specs.Unquoted.{operand_told}
use Rattle.sh_quote.proofs.UnquotedLemmas.{Left}
use Rattle.sh_quote.proofs.unquoted.add_operands.Given as goal

abbrev pub invariant-loop-word : goal.invariant-loop-word
invariant-loop-word l = Left (operand_told l.script l.declares l.steady) (words_of l.left) (words_of l.elements) l.places.items l.initial.places.items

abbrev pub decreases-loop-word : goal.decreases-loop-word
decreases-loop-word l = length (words_of l.left)
