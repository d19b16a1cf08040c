use Rattle.show_tree.specs.Words.{Continues}
use Rattle.show_tree.proofs.word.word_told.Given as goal

abbrev pub invariant-loop : goal.invariant-loop
invariant-loop l = Continues l.text l.mode l.builder
