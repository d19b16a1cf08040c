use Rattle.std.proofs.Common.{refl}
use Rattle.sh_tree.specs.declared.tree.AndOr.{roll-AndOr}
use Rattle.sh_tree.specs.declared.tree.Branch.{roll-Branch}
use Rattle.sh_tree.specs.declared.tree.Clause.{roll-Clause}
use Rattle.sh_tree.specs.declared.tree.Command.{roll-Command}
use Rattle.sh_tree.specs.declared.tree.Element.TheBlock.{shape-the_row-Part-0, hidden-the_row-Part-0, shape-the_row-Element-3, hidden-the_row-Element-3, shape-the_row-Branch-4, hidden-the_row-Branch-4, shape-the_row-Word-5, hidden-the_row-Word-5, shape-the_row-Clause-6, hidden-the_row-Clause-6, shape-the_row-Command-7, hidden-the_row-Command-7, shape-the_row-AndOr-rest-2-8, hidden-the_row-AndOr-rest-2-8, shape-the_row-Redirect-9, hidden-the_row-Redirect-9, shape-the_row-Command-10, hidden-the_row-Command-10, shape-the_row-Item-11, hidden-the_row-Item-11}
use Rattle.sh_tree.specs.declared.tree.Item.{roll-Item}
use Rattle.sh_tree.specs.declared.tree.Pipe.{roll-Pipe}
use Rattle.sh_tree.specs.declared.tree.Script.{roll-Script}
use Rattle.sh_print.specs.Layout.{pending, last_pending, pipeline_pending, items_text}
use Rattle.sh_print.specs.Trees.{opens_of, opened_of, element_of, for_words_of, script_of}
use Rattle.sh_print.proofs.laws.examples.Goals as goal

pub returns : goal.returns
unfolding pending last_pending pipeline_pending items_text opens_of opened_of element_of for_words_of script_of roll-Script roll-Item roll-AndOr roll-Pipe roll-Command roll-Branch roll-Clause denote.Hole.Carrier.roll denote.Hole.Carrier.hidden shape-the_row-Part-0 hidden-the_row-Part-0 shape-the_row-Element-3 hidden-the_row-Element-3 shape-the_row-Branch-4 hidden-the_row-Branch-4 shape-the_row-Word-5 hidden-the_row-Word-5 shape-the_row-Clause-6 hidden-the_row-Clause-6 shape-the_row-Command-7 hidden-the_row-Command-7 shape-the_row-AndOr-rest-2-8 hidden-the_row-AndOr-rest-2-8 shape-the_row-Redirect-9 hidden-the_row-Redirect-9 shape-the_row-Command-10 hidden-the_row-Command-10 shape-the_row-Item-11 hidden-the_row-Item-11
returns c = record {
  empty = refl;
  quoted = refl;
  home = refl;
  substituted = refl;
  document = refl;
  stripped = refl;
  branches = refl;
  elif = refl;
  until = refl;
  every = refl;
  cases = refl;
  defined = refl;
  closed = refl;
  while = refl;
  for_none = refl;
  for_two = refl;
  redirected = refl;
  numbered = refl;
  two_documents = refl;
  group_document = refl;
  inner_document = refl;
  piped_document = refl;
  joined_end = refl;
  unended_line = refl;
  lines = refl;
  linked = refl;
  negated = refl;
  looped = refl;
  body = refl;
  clauses = refl;
}
