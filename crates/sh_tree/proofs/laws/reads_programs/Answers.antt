use Rattle.std.proofs.Common.{refl}
use Rattle.sh_tree.specs.declared.tree.AndOr.{roll-AndOr}
use Rattle.sh_tree.specs.declared.tree.Branch.{roll-Branch}
use Rattle.sh_tree.specs.declared.tree.Clause.{roll-Clause}
use Rattle.sh_tree.specs.declared.tree.Command.{roll-Command}
use Rattle.sh_tree.specs.declared.tree.Element.TheBlock.{shape-the_row-Part-0, hidden-the_row-Part-0, shape-the_row-Expr-1, hidden-the_row-Expr-1, shape-the_row-Expr-Chain-1-2-2, hidden-the_row-Expr-Chain-1-2-2, shape-the_row-Element-3, hidden-the_row-Element-3, shape-the_row-Branch-4, hidden-the_row-Branch-4, shape-the_row-Word-5, hidden-the_row-Word-5, shape-the_row-Clause-6, hidden-the_row-Clause-6, shape-the_row-Command-7, hidden-the_row-Command-7, shape-the_row-AndOr-rest-2-8, hidden-the_row-AndOr-rest-2-8, shape-the_row-Redirect-9, hidden-the_row-Redirect-9, shape-the_row-Command-10, hidden-the_row-Command-10, shape-the_row-Item-11, hidden-the_row-Item-11}
use Rattle.sh_tree.specs.declared.tree.Item.{roll-Item}
use Rattle.sh_tree.specs.declared.tree.Pipe.{roll-Pipe}
use Rattle.sh_tree.specs.declared.tree.Script.{roll-Script}
use Rattle.sh_tree.specs.standard.Words.{escaped, escape_of}
use Rattle.sh_tree.specs.standard.program.Trees.{parameter_of, part_of}
use Rattle.sh_tree.proofs.laws.reads_programs.Goals as goal

pub returns : goal.returns
unfolding escaped escape_of parameter_of part_of roll-Script roll-Item roll-AndOr roll-Pipe roll-Command roll-Branch roll-Clause denote.Hole.Carrier.roll denote.Hole.Carrier.hidden shape-the_row-Part-0 hidden-the_row-Part-0 shape-the_row-Expr-1 hidden-the_row-Expr-1 shape-the_row-Expr-Chain-1-2-2 hidden-the_row-Expr-Chain-1-2-2 shape-the_row-Element-3 hidden-the_row-Element-3 shape-the_row-Branch-4 hidden-the_row-Branch-4 shape-the_row-Word-5 hidden-the_row-Word-5 shape-the_row-Clause-6 hidden-the_row-Clause-6 shape-the_row-Command-7 hidden-the_row-Command-7 shape-the_row-AndOr-rest-2-8 hidden-the_row-AndOr-rest-2-8 shape-the_row-Redirect-9 hidden-the_row-Redirect-9 shape-the_row-Command-10 hidden-the_row-Command-10 shape-the_row-Item-11 hidden-the_row-Item-11
returns c = record {
  quoted = refl;
  dollar = refl;
  assigned = refl;
  home = refl;
  braces = refl;
  braced = refl;
  parameters = refl;
  arithmetic = refl;
  choice = refl;
  substituted = refl;
  document = refl;
  stripped = refl;
  branches = refl;
  elif = refl;
  until = refl;
  every = refl;
  loop = refl;
  cases = refl;
  through = refl;
  defined = refl;
  unset_first = refl;
}
