use Rattle.std.proofs.Common.{◌≡◌, length}
use Rattle.sh_tree.specs.standard.Words.{words_of}
use Rattle.sh_quote.proofs.elements.split_word.Given as goal

-- no word yet
abbrev pub invariant-loop-left : goal.invariant-loop-left
invariant-loop-left l = words_of l.left ≡ words_of l.elements

abbrev pub decreases-loop-left : goal.decreases-loop-left
decreases-loop-left l = length l.left
