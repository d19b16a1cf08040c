use Rattle.std.proofs.Common.{fold, take}
use Rattle.sh_demands.specs.Places.{command_places}
use Rattle.sh_demands.specs.ToldWalks as walks
use Rattle.sh_demands.specs.Reported.{Adds}
use Rattle.sh_demands.proofs.demands.+tell.Given as goal

-- what is reported so far is what is reported of the pieces so far

abbrev pub invariant-tell_items-loop-item : goal.invariant-tell_items-loop-item
invariant-tell_items-loop-item l = Adds l.initial.reports l.reports (λ ps. fold (walks.item_step (command_places l.source) l.script l.shares) ps (take l.item-index l.items))

abbrev pub invariant-tell_links-loop-link : goal.invariant-tell_links-loop-link
invariant-tell_links-loop-link l = Adds l.initial.reports l.reports (λ ps. fold (walks.link_step (command_places l.source) l.script l.shares) ps (take l.link-index l.links))

abbrev pub invariant-tell_commands-loop-command : goal.invariant-tell_commands-loop-command
invariant-tell_commands-loop-command l = Adds l.initial.reports l.reports (λ ps. fold (walks.command_step (command_places l.source) l.script l.shares) ps (take l.command-index l.commands))

abbrev pub invariant-tell_redirects-loop-redirect : goal.invariant-tell_redirects-loop-redirect
invariant-tell_redirects-loop-redirect l = Adds l.initial.reports l.reports (λ ps. fold (walks.redirect_step (command_places l.source) l.script) ps (take l.redirect-index l.redirects))

abbrev pub invariant-tell_elements-loop-element : goal.invariant-tell_elements-loop-element
invariant-tell_elements-loop-element l = Adds l.initial.reports l.reports (λ ps. fold (walks.element_step (command_places l.source) l.script) ps (take l.element-index l.elements))

abbrev pub invariant-tell_branches-loop-branch : goal.invariant-tell_branches-loop-branch
invariant-tell_branches-loop-branch l = Adds l.initial.reports l.reports (λ ps. fold (walks.branch_step (command_places l.source) l.script l.shares) ps (take l.branch-index l.branches))

abbrev pub invariant-tell_words-loop-word : goal.invariant-tell_words-loop-word
invariant-tell_words-loop-word l = Adds l.initial.reports l.reports (λ ps. fold (walks.word_step (command_places l.source) l.script) ps (take l.word-index l.words))

abbrev pub invariant-tell_clauses-loop-clause : goal.invariant-tell_clauses-loop-clause
invariant-tell_clauses-loop-clause l = Adds l.initial.reports l.reports (λ ps. fold (walks.clause_step (command_places l.source) l.script l.shares) ps (take l.clause-index l.clauses))

abbrev pub invariant-tell_parts-loop-part : goal.invariant-tell_parts-loop-part
invariant-tell_parts-loop-part l = Adds l.initial.reports l.reports (λ ps. fold (walks.part_step (command_places l.source) l.script) ps (take l.part-index l.parts))

abbrev pub invariant-tell_chain-loop-link : goal.invariant-tell_chain-loop-link
invariant-tell_chain-loop-link l = Adds l.initial.reports l.reports (λ ps. fold (walks.operand_step (command_places l.source) l.script) ps (take l.link-index l.rest))
