use Rattle.std.proofs.Common.{sym, ◌∙◌}
use Rattle.sh_tree.specs.standard.program.Trees as trees
use Rattle.sh_tally.proofs.WordLemmas.{seen_kept, seen_set}
use Rattle.sh_tally.proofs.words.in_word.Goals as goal

pub returns-then-is_alternative : goal.returns-then-is_alternative
returns-then-is_alternative c = λ functions b q sees. seen_set functions c.args.action (trees.parameter_of b c.args.parameter) q c.args.known c.set.result (c.set.ensures b) sees

pub returns-else-is_alternative : goal.returns-else-is_alternative
returns-else-is_alternative c = λ functions b q sees. seen_kept functions c.args.action (sym c.is_alternative.ensures ∙ c.if-is_alternative.false) (trees.parameter_of b c.args.parameter) q c.args.known sees
