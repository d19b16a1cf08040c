use Rattle.std.proofs.Common.{◌≡◌, ◌++◌, drop, codes}
use Rattle.std.specs.List.{flat_map}
use Rattle.sh_tree.specs.declared.tree.Item.{out-Item}
use Rattle.sh_print.specs.Layout.{pending, pipeline_pending, links_text, piped_text}
use Rattle.sh_print.specs.Lists.{links_from, commands_from, item_text, branch_text, clause_text}
use Rattle.sh_print.specs.Trees.{pipeline_of, command_of}
use Rattle.sh_print.proofs.commands.+print.Given as goal

-- In each loop what is printed and the text of what is left are the whole.

abbrev pub invariant-push_script-loop-item : goal.invariant-push_script-loop-item
invariant-push_script-loop-item l = l.out.items ++ flat_map (item_text l.depth l.script) (drop l.item-index l.items) ≡ l.initial.out.items ++ flat_map (item_text l.depth l.script) l.items

abbrev pub invariant-push_item-loop-link : goal.invariant-push_item-loop-link
invariant-push_item-loop-link l =
    l.out.items ++ links_text l.depth (pipeline_pending (pipeline_of l.script l.before)) (links_from l.script (drop l.link-index l.links)) (out-Item l.item).background
    ≡ l.initial.out.items ++ links_text l.depth (pipeline_pending (pipeline_of l.script l.initial.before)) (links_from l.script l.links) (out-Item l.item).background

abbrev pub invariant-push_pipe-loop-command : goal.invariant-push_pipe-loop-command
invariant-push_pipe-loop-command l =
    l.out.items ++ piped_text l.depth (pending (command_of l.script l.before)) (commands_from l.script (drop l.command-index l.others))
    ≡ l.initial.out.items ++ piped_text l.depth (pending (command_of l.script l.initial.before)) (commands_from l.script l.others)

abbrev pub invariant-push_branches-loop-branch : goal.invariant-push_branches-loop-branch
invariant-push_branches-loop-branch l =
    l.out.items ++ flat_map (branch_text l.depth (codes "elif") l.script) (drop l.branch-index l.others) ≡ l.initial.out.items ++ flat_map (branch_text l.depth (codes "elif") l.script) l.others

abbrev pub invariant-push_clauses-loop-clause : goal.invariant-push_clauses-loop-clause
invariant-push_clauses-loop-clause l = l.out.items ++ flat_map (clause_text l.depth l.script) (drop l.clause-index l.clauses) ≡ l.initial.out.items ++ flat_map (clause_text l.depth l.script) l.clauses
