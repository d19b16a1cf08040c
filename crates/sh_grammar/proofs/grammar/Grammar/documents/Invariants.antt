use Rattle.std.proofs.Common.{length}
use Rattle.sh_grammar.proofs.DocumentLemmas.{DocumentsLeft}
use Rattle.sh_grammar.proofs.grammar.Grammar.documents.Given as goal

abbrev pub invariant-loop-left : goal.invariant-loop-left
invariant-loop-left g l = DocumentsLeft l.script l.fn.marks l.fn.from l.left l.next

abbrev pub decreases-loop-left : goal.decreases-loop-left
decreases-loop-left g l = length l.left
