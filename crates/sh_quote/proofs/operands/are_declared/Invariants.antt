use Rattle.std.proofs.Common.{◌≡◌, length, map}
use Rattle.sh_tree.specs.standard.Words.{words_of}
use Rattle.sh_table.specs.WordTexts.{text_in}
use Rattle.sh_quote.specs.Operands.{all_declared}
use Rattle.sh_quote.proofs.operands.are_declared.Given as goal

-- All of those before are.
abbrev pub invariant-loop-word : goal.invariant-loop-word
invariant-loop-word l =
    all_declared l.script (words_of l.left) (map (text_in l.script) l.later) ≡ all_declared l.script (words_of l.elements) (map (text_in l.script) l.texts)

abbrev pub decreases-loop-word : goal.decreases-loop-word
decreases-loop-word l = length l.later
