use Rattle.std.proofs.Common.{fold, take}
use Rattle.std.specs.List.{flat_map}
use Rattle.sh_table.specs.Walks as spec
use Rattle.sh_table.proofs.walk.+walk.Given as goal

-- In each loop the visitor keeps the commands of the pieces so far.

abbrev pub invariant-walk_script-loop-item : goal.invariant-walk_script-loop-item
invariant-walk_script-loop-item g l =
    (k : g.V.Visitor.Kept) → g.V.Visitor.keeps l.script l.initial.visitor k → g.V.Visitor.keeps l.script l.visitor (fold g.V.Visitor.with_command k (flat_map (spec.of_item l.script l.around) (take l.item-index l.item-items)))

abbrev pub invariant-walk_and_or-loop-link : goal.invariant-walk_and_or-loop-link
invariant-walk_and_or-loop-link g l =
    (k : g.V.Visitor.Kept) → g.V.Visitor.keeps l.script l.initial.visitor k → g.V.Visitor.keeps l.script l.visitor (fold g.V.Visitor.with_command k (flat_map (spec.of_link l.script l.around) (take l.link-index l.link-items)))

abbrev pub invariant-walk_pipe-loop-command : goal.invariant-walk_pipe-loop-command
invariant-walk_pipe-loop-command g l =
    (k : g.V.Visitor.Kept) → g.V.Visitor.keeps l.script l.initial.visitor k → g.V.Visitor.keeps l.script l.visitor (fold g.V.Visitor.with_command k (flat_map (spec.of_command l.script l.inner) (take l.command-index l.parts)))

abbrev pub invariant-walk_command-loop-redirect : goal.invariant-walk_command-loop-redirect
invariant-walk_command-loop-redirect g l =
    (k : g.V.Visitor.Kept) → g.V.Visitor.keeps l.script l.initial.visitor k → g.V.Visitor.keeps l.script l.visitor (fold g.V.Visitor.with_command k (flat_map (spec.of_redirect l.script) (take l.redirect-index l.redirect-items)))

abbrev pub invariant-walk_elements-loop-element : goal.invariant-walk_elements-loop-element
invariant-walk_elements-loop-element g l =
    (k : g.V.Visitor.Kept) → g.V.Visitor.keeps l.script l.initial.visitor k → g.V.Visitor.keeps l.script l.visitor (fold g.V.Visitor.with_command k (flat_map (spec.of_element l.script) (take l.element-index l.elements)))

abbrev pub invariant-walk_branches-loop-branch : goal.invariant-walk_branches-loop-branch
invariant-walk_branches-loop-branch g l =
    (k : g.V.Visitor.Kept) → g.V.Visitor.keeps l.script l.initial.visitor k → g.V.Visitor.keeps l.script l.visitor (fold g.V.Visitor.with_command k (flat_map (spec.of_branch l.script l.around) (take l.branch-index l.branches)))

abbrev pub invariant-walk_words-loop-word : goal.invariant-walk_words-loop-word
invariant-walk_words-loop-word g l =
    (k : g.V.Visitor.Kept) → g.V.Visitor.keeps l.script l.initial.visitor k → g.V.Visitor.keeps l.script l.visitor (fold g.V.Visitor.with_command k (flat_map (spec.of_word l.script) (take l.word-index l.words)))

abbrev pub invariant-walk_clauses-loop-clause : goal.invariant-walk_clauses-loop-clause
invariant-walk_clauses-loop-clause g l =
    (k : g.V.Visitor.Kept) → g.V.Visitor.keeps l.script l.initial.visitor k → g.V.Visitor.keeps l.script l.visitor (fold g.V.Visitor.with_command k (flat_map (spec.of_clause l.script l.around) (take l.clause-index l.clauses)))

abbrev pub invariant-walk_parts-loop-part : goal.invariant-walk_parts-loop-part
invariant-walk_parts-loop-part g l =
    (k : g.V.Visitor.Kept) → g.V.Visitor.keeps l.script l.initial.visitor k → g.V.Visitor.keeps l.script l.visitor (fold g.V.Visitor.with_command k (flat_map (spec.of_part l.script) (take l.part-index l.parts)))

abbrev pub invariant-walk_chain-loop-link : goal.invariant-walk_chain-loop-link
invariant-walk_chain-loop-link g l =
    (k : g.V.Visitor.Kept) → g.V.Visitor.keeps l.script l.initial.visitor k → g.V.Visitor.keeps l.script l.visitor (fold g.V.Visitor.with_command k (flat_map (spec.of_step l.script) (take l.link-index l.rest)))
