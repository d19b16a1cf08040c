use Rattle.sh_tree.specs.standard.language.Reading.{is_some}
use Rattle.sh_grammar.proofs.KeptLemmas.{asked_none}
use Rattle.sh_grammar.proofs.kept.tabbed_if.Goals as goal

pub returns-else-asked-clause-value : goal.returns-else-asked-clause-value
unfolding is_some
returns-else-asked-clause-value c = asked_none c.args.asked _ c.if-asked.false
