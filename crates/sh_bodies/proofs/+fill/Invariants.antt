use Rattle.std.proofs.Common.{◌≡◌}
use Rattle.sh_bodies.specs.Fill.{thread, fill_item, fill_link, fill_command, fill_branch, fill_clause}
use Rattle.sh_bodies.proofs.FillLemmas.{behind}
use Rattle.sh_bodies.proofs.+fill.Given as goal

abbrev pub invariant-fill_items-loop-item : goal.invariant-fill_items-loop-item
invariant-fill_items-loop-item l = thread fill_item l.fn.bodies.items l.fn.items ≡ behind l.found (thread fill_item l.bodies.items l.item-iterator.rest.items)

abbrev pub invariant-fill_links-loop-link : goal.invariant-fill_links-loop-link
invariant-fill_links-loop-link l = thread fill_link l.fn.bodies.items l.fn.links ≡ behind l.found (thread fill_link l.bodies.items l.link-iterator.rest.items)

abbrev pub invariant-fill_commands-loop-command : goal.invariant-fill_commands-loop-command
invariant-fill_commands-loop-command l = thread fill_command l.fn.bodies.items l.fn.commands ≡ behind l.found (thread fill_command l.bodies.items l.command-iterator.rest.items)

abbrev pub invariant-fill_branches-loop-branch : goal.invariant-fill_branches-loop-branch
invariant-fill_branches-loop-branch l = thread fill_branch l.fn.bodies.items l.fn.branches ≡ behind l.found (thread fill_branch l.bodies.items l.branch-iterator.rest.items)

abbrev pub invariant-fill_clauses-loop-clause : goal.invariant-fill_clauses-loop-clause
invariant-fill_clauses-loop-clause l = thread fill_clause l.fn.bodies.items l.fn.clauses ≡ behind l.found (thread fill_clause l.bodies.items l.clause-iterator.rest.items)
