use Rattle.std.proofs.Common.{◌≡◌, drop}
use Rattle.sh_tree.specs.standard.Words.{words_of}
use Rattle.sh_tree.proofs.words.command_name.Given as goal

-- no word yet
abbrev pub invariant-loop-element : goal.invariant-loop-element
invariant-loop-element l = words_of (drop l.element-index l.elements) ≡ words_of l.elements
