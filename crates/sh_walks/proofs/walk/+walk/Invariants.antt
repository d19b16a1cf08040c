use Rattle.std.proofs.Common.{◌≡◌, fold, take}
use Rattle.sh_rules.specs.Walked.{trail, nothing_falls}
use Rattle.sh_rules.specs.Walks as walks
use Rattle.sh_rules.specs.Steps as steps
use Rattle.sh_walks.proofs.walk.+walk.Given as goal

-- In each loop what is kept and known is what the pieces so far leave.

abbrev pub invariant-walk_items-loop-item : goal.invariant-walk_items-loop-item
invariant-walk_items-loop-item g l = steps.ran (walks.setting l.claims) l.course (g.V.Visitor.kept l.visitor) ≡ fold (steps.item_step (walks.setting l.claims) (g.V.Visitor.with_met (walks.setting l.claims)) (walks.around (walks.setting l.claims).script l.around)) (steps.ran (walks.setting l.claims) l.initial.course (g.V.Visitor.kept l.initial.visitor)) (take l.item-index l.items)

abbrev pub invariant-walk_links-loop-link : goal.invariant-walk_links-loop-link
invariant-walk_links-loop-link g l = steps.ran (walks.setting l.claims) l.course (g.V.Visitor.kept l.visitor) ≡ fold (steps.link_step (walks.setting l.claims) (g.V.Visitor.with_met (walks.setting l.claims)) (walks.around (walks.setting l.claims).script l.around)) (steps.ran (walks.setting l.claims) l.initial.course (g.V.Visitor.kept l.initial.visitor)) (take l.link-index l.links)

abbrev pub invariant-walk_commands-loop-command : goal.invariant-walk_commands-loop-command
invariant-walk_commands-loop-command g l = g.V.Visitor.kept l.visitor ≡ fold (steps.command_kept (walks.setting l.claims) (g.V.Visitor.with_met (walks.setting l.claims)) l.by (walks.around (walks.setting l.claims).script l.around) (walks.facts_in (walks.setting l.claims) l.known)) (g.V.Visitor.kept l.initial.visitor) (take l.command-index l.commands)

abbrev pub invariant-walk_redirects-loop-redirect : goal.invariant-walk_redirects-loop-redirect
invariant-walk_redirects-loop-redirect g l = trail (walks.facts_in (walks.setting l.claims) l.known) (g.V.Visitor.kept l.visitor) ≡ fold (steps.redirect_step (walks.setting l.claims) (g.V.Visitor.with_met (walks.setting l.claims))) (trail (walks.facts_in (walks.setting l.claims) l.initial.known) (g.V.Visitor.kept l.initial.visitor)) (take l.redirect-index l.redirects)

abbrev pub invariant-walk_words-loop-word : goal.invariant-walk_words-loop-word
invariant-walk_words-loop-word g l = trail (walks.facts_in (walks.setting l.claims) l.known) (g.V.Visitor.kept l.visitor) ≡ fold (steps.word_step (walks.setting l.claims) (g.V.Visitor.with_met (walks.setting l.claims))) (trail (walks.facts_in (walks.setting l.claims) l.initial.known) (g.V.Visitor.kept l.initial.visitor)) (take l.word-index l.words)

abbrev pub invariant-walk_elements-loop-element : goal.invariant-walk_elements-loop-element
invariant-walk_elements-loop-element g l = trail (walks.facts_in (walks.setting l.claims) l.known) (g.V.Visitor.kept l.visitor) ≡ fold (steps.element_step (walks.setting l.claims) (g.V.Visitor.with_met (walks.setting l.claims)) (walks.facts_in (walks.setting l.claims) l.behind)) (trail (walks.facts_in (walks.setting l.claims) l.initial.known) (g.V.Visitor.kept l.initial.visitor)) (take l.element-index l.elements)

abbrev pub invariant-walk_branches-loop-branch : goal.invariant-walk_branches-loop-branch
invariant-walk_branches-loop-branch g l = trail (walks.facts_in (walks.setting l.claims) l.known) (g.V.Visitor.kept l.visitor) ≡ fold (steps.branch_step (walks.setting l.claims) (g.V.Visitor.with_met (walks.setting l.claims)) (walks.around (walks.setting l.claims).script l.around)) (trail (walks.facts_in (walks.setting l.claims) l.initial.known) (g.V.Visitor.kept l.initial.visitor)) (take l.branch-index l.branches)

abbrev pub invariant-walk_case-loop-clause : goal.invariant-walk_case-loop-clause
invariant-walk_case-loop-clause g l = trail (walks.facts_in (walks.setting l.claims) l.fallen) (g.V.Visitor.kept l.visitor) ≡ fold (steps.clause_step (walks.setting l.claims) (g.V.Visitor.with_met (walks.setting l.claims)) (walks.around (walks.setting l.claims).script l.around) (walks.facts_in (walks.setting l.claims) l.behind)) (nothing_falls (g.V.Visitor.kept l.initial.visitor)) (take l.clause-index l.clauses)

abbrev pub invariant-walk_patterns-loop-pattern : goal.invariant-walk_patterns-loop-pattern
invariant-walk_patterns-loop-pattern g l = g.V.Visitor.kept l.visitor ≡ fold (steps.pattern_step (walks.setting l.claims) (g.V.Visitor.with_met (walks.setting l.claims)) (walks.facts_in (walks.setting l.claims) l.behind)) (g.V.Visitor.kept l.initial.visitor) (take l.pattern-index l.patterns)

abbrev pub invariant-walk_parts-loop-part : goal.invariant-walk_parts-loop-part
invariant-walk_parts-loop-part g l = trail (walks.facts_in (walks.setting l.claims) l.known) (g.V.Visitor.kept l.visitor) ≡ fold (steps.part_step (walks.setting l.claims) (g.V.Visitor.with_met (walks.setting l.claims))) (trail (walks.facts_in (walks.setting l.claims) l.initial.known) (g.V.Visitor.kept l.initial.visitor)) (take l.part-index l.parts)

abbrev pub invariant-walk_operands-loop-link : goal.invariant-walk_operands-loop-link
invariant-walk_operands-loop-link g l = trail (walks.facts_in (walks.setting l.claims) l.known) (g.V.Visitor.kept l.visitor) ≡ fold (steps.operand_step (walks.setting l.claims) (g.V.Visitor.with_met (walks.setting l.claims))) (trail (walks.facts_in (walks.setting l.claims) l.initial.known) (g.V.Visitor.kept l.initial.visitor)) (take l.link-index l.rest)
