use Rattle.std.proofs.Common.{◌≡◌, [], rules, arith, sym, ap, ◌∙◌}
use Rattle.std.proofs.lemmas.Grind.{common_steps}
use Rattle.sh_tree.specs.declared.tree.Command.{Command}
use Rattle.sh_bodies.specs.Fill.{Filled, thread, fill_item, fill_link, fill_command, fill_branch, fill_clause}
use Rattle.sh_bodies.proofs.FillLemmas.{behind, thread_none, script_made, item_made, and_or_made, pipe_made, command_made, branch_made, clause_made, Simple_made, Group_made, Subshell_made, Cond_made, Loop_made, For_made, Branches_made, Define_made}
use Rattle.sh_bodies.proofs.+fill.Goals as goal

pub fill_items-returns : goal.fill_items-returns
fill_items-returns t c =
    let none : c.loop-item.item-iterator.rest.items ≡ [] = first_of (search rules, grind (arith, common_steps)) in
    sym (c.loop-item.invariant ∙ ap (λ xs. behind c.loop-item.found (thread fill_item c.loop-item.bodies.items xs)) none ∙ thread_none fill_item c.loop-item.bodies.items c.loop-item.found)

pub fill_links-returns : goal.fill_links-returns
fill_links-returns t c =
    let none : c.loop-link.link-iterator.rest.items ≡ [] = first_of (search rules, grind (arith, common_steps)) in
    sym (c.loop-link.invariant ∙ ap (λ xs. behind c.loop-link.found (thread fill_link c.loop-link.bodies.items xs)) none ∙ thread_none fill_link c.loop-link.bodies.items c.loop-link.found)

pub fill_commands-returns : goal.fill_commands-returns
fill_commands-returns t c =
    let none : c.loop-command.command-iterator.rest.items ≡ [] = first_of (search rules, grind (arith, common_steps)) in
    sym (c.loop-command.invariant ∙ ap (λ xs. behind c.loop-command.found (thread fill_command c.loop-command.bodies.items xs)) none ∙ thread_none fill_command c.loop-command.bodies.items c.loop-command.found)

pub fill_branches-returns : goal.fill_branches-returns
fill_branches-returns t c =
    let none : c.loop-branch.branch-iterator.rest.items ≡ [] = first_of (search rules, grind (arith, common_steps)) in
    sym (c.loop-branch.invariant ∙ ap (λ xs. behind c.loop-branch.found (thread fill_branch c.loop-branch.bodies.items xs)) none ∙ thread_none fill_branch c.loop-branch.bodies.items c.loop-branch.found)

pub fill_clauses-returns : goal.fill_clauses-returns
fill_clauses-returns t c =
    let none : c.loop-clause.clause-iterator.rest.items ≡ [] = first_of (search rules, grind (arith, common_steps)) in
    sym (c.loop-clause.invariant ∙ ap (λ xs. behind c.loop-clause.found (thread fill_clause c.loop-clause.bodies.items xs)) none ∙ thread_none fill_clause c.loop-clause.bodies.items c.loop-clause.found)

pub fill_script-returns : goal.fill_script-returns
fill_script-returns t c = script_made c.args.bodies.now.items c.fill_items.new.bodies.items c.args.script c.in_ok-items.items c.in_ok-items.ensures

pub fill_item-returns : goal.fill_item-returns
fill_item-returns t c = item_made c.args.bodies.now.items c.fill_and_or.new.bodies.items c.args.item c.in_ok-list.list c.in_ok-list.ensures

pub fill_and_or-returns : goal.fill_and_or-returns
fill_and_or-returns t c = and_or_made c.args.bodies.now.items c.fill_pipe.new.bodies.items c.fill_links.new.bodies.items c.args.list c.in_ok-first.first c.in_ok-rest.rest c.in_ok-first.ensures c.in_ok-rest.ensures

pub fill_pipe-returns : goal.fill_pipe-returns
fill_pipe-returns t c = pipe_made c.args.bodies.now.items c.fill_commands.new.bodies.items c.args.pipe c.in_ok-parts.parts c.in_ok-parts.ensures

pub fill_command-returns : goal.fill_command-returns
fill_command-returns t c = command_made c.args.bodies.now.items c.fill_kind.new.bodies.items c.fill_redirects.new.bodies.items c.args.command c.in_ok-kind.kind c.in_ok-redirects.redirects c.in_ok-kind.ensures c.in_ok-redirects.ensures

pub fill_branch-returns : goal.fill_branch-returns
fill_branch-returns t c = branch_made c.args.bodies.now.items c.fill_script.new.bodies.items c.fill_script-2.new.bodies.items c.args.branch c.in_ok-condition.condition c.in_ok-body.body c.in_ok-condition.ensures c.in_ok-body.ensures

pub fill_clause-returns : goal.fill_clause-returns
fill_clause-returns t c = clause_made c.args.bodies.now.items c.fill_script.new.bodies.items c.args.clause c.in_ok-body.body c.in_ok-body.ensures

pub fill_kind-returns-in_ok-fill_elements-in-Simple : goal.fill_kind-returns-in_ok-fill_elements-in-Simple
fill_kind-returns-in_ok-fill_elements-in-Simple t c = Simple_made c.args.bodies.now.items c.fill_elements.new.bodies.items c.args.kind c.in-Simple.elements c.in_ok-fill_elements-in-Simple.field-0 c.in-Simple.is c.in_ok-fill_elements-in-Simple.ensures

pub fill_kind-returns-in_ok-fill_script-in-Group : goal.fill_kind-returns-in_ok-fill_script-in-Group
fill_kind-returns-in_ok-fill_script-in-Group t c = Group_made c.args.bodies.now.items c.fill_script.new.bodies.items c.args.kind c.in-Group.list c.in_ok-fill_script-in-Group.field-0 c.in-Group.is c.in_ok-fill_script-in-Group.ensures

pub fill_kind-returns-in_ok-fill_script-in-Subshell : goal.fill_kind-returns-in_ok-fill_script-in-Subshell
fill_kind-returns-in_ok-fill_script-in-Subshell t c = Subshell_made c.args.bodies.now.items c.fill_script-in-Subshell.new.bodies.items c.args.kind c.in-Subshell.list c.in_ok-fill_script-in-Subshell.field-0 c.in-Subshell.is c.in_ok-fill_script-in-Subshell.ensures

pub fill_kind-returns-in_ok-fill_otherwise-in-Cond : goal.fill_kind-returns-in_ok-fill_otherwise-in-Cond
fill_kind-returns-in_ok-fill_otherwise-in-Cond t c = Cond_made c.args.bodies.now.items c.fill_otherwise.new.bodies.items c.args.kind c.fill_branches.new.bodies.items c.in-Cond.branches c.in_ok-fill_branches-in-Cond.field-0 c.in-Cond.otherwise c.in_ok-fill_otherwise-in-Cond.field-0 c.in-Cond.is c.in_ok-fill_branches-in-Cond.ensures c.in_ok-fill_otherwise-in-Cond.ensures

pub fill_kind-returns-in_ok-fill_script-in-Loop-2 : goal.fill_kind-returns-in_ok-fill_script-in-Loop-2
fill_kind-returns-in_ok-fill_script-in-Loop-2 t c = Loop_made c.args.bodies.now.items c.fill_script-in-Loop-2.new.bodies.items c.args.kind c.fill_script-in-Loop.new.bodies.items c.in-Loop.kind c.in-Loop.condition c.in_ok-fill_script-in-Loop.field-0 c.in-Loop.body c.in_ok-fill_script-in-Loop-2.field-0 c.in-Loop.is c.in_ok-fill_script-in-Loop.ensures c.in_ok-fill_script-in-Loop-2.ensures

pub fill_kind-returns-in_ok-body-in-For : goal.fill_kind-returns-in_ok-body-in-For
fill_kind-returns-in_ok-body-in-For t c = For_made c.args.bodies.now.items c.fill_script-in-For.new.bodies.items c.args.kind c.in-For.name c.in-For.words c.in-For.body c.in_ok-body-in-For.body c.in-For.is c.in_ok-body-in-For.ensures

pub fill_kind-returns-in_ok-clauses-in-Branches : goal.fill_kind-returns-in_ok-clauses-in-Branches
fill_kind-returns-in_ok-clauses-in-Branches t c = Branches_made c.args.bodies.now.items c.fill_clauses.new.bodies.items c.args.kind c.in-Branches.word c.in-Branches.clauses c.in_ok-clauses-in-Branches.clauses c.in-Branches.is c.in_ok-clauses-in-Branches.ensures

pub fill_kind-returns-in_ok-body-in-Define-2 : goal.fill_kind-returns-in_ok-body-in-Define-2
fill_kind-returns-in_ok-body-in-Define-2 t c =
    let ds = c.args.bodies.now.items in
    let rest = c.fill_command.new.bodies.items in
    let pair : Command → Filled Command = λ x. (x, rest) in
    let boxed : pair c.in_ok-body-in-Define-2.body ≡ fill_command ds c.in-Define.body = ap pair c.in_ok-body-in-Define-2.ensures ∙ c.in_ok-body-in-Define.ensures ∙ ap (fill_command ds) c.into_inner.ensures in
    Define_made ds rest c.args.kind c.in-Define.name c.in-Define.body c.in_ok-body-in-Define-2.body c.in-Define.is boxed
