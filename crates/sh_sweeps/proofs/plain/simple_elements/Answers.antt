use Rattle.std.proofs.Common.{sym, ap, ◌∙◌}
use Rattle.sh_tree.specs.Lists.{elements_from}
use Rattle.sh_tree.specs.standard.Words.{elements_of, elements_of_simple}
use Rattle.sh_tree.specs.standard.program.Syntax as p
use Rattle.sh_tree.specs.standard.program.Trees as trees
use Rattle.sh_tree.proofs.ProgramRules as rules
use Rattle.sh_sweeps.proofs.plain.simple_elements.Goals as goal

pub returns-in-Simple : goal.returns-in-Simple
returns-in-Simple c = record {
  elements = ap elements_of c.in-Simple.is ∙ elements_of_simple c.in-Simple.elements ∙ sym c.as_slice.ensures;
  simple = λ b. ap (trees.kind_of b) c.in-Simple.is ∙ rules.kind_of-Simple b c.in-Simple.elements ∙ ap (λ es. p.Simple (elements_from b es)) (sym c.as_slice.ensures);
}
