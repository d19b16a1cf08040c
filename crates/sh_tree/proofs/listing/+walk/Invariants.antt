use Rattle.std.proofs.Common.{◌≡◌, ◌++◌, map, drop}
use Rattle.std.specs.List.{flat_map}
use Rattle.sh_tree.specs.Commands as spec
use Rattle.sh_tree.proofs.listing.+walk.Given as goal

-- In each loop what is found and what is left are the whole.

abbrev pub invariant-add_script-loop-item : goal.invariant-add_script-loop-item
invariant-add_script-loop-item l = map (λ c. c.now) l.found.items ++ flat_map spec.of_item (drop l.item-index l.item-items) ≡ map (λ c. c.now) l.initial.found.items ++ flat_map spec.of_item l.item-items

abbrev pub invariant-add_and_or-loop-link : goal.invariant-add_and_or-loop-link
invariant-add_and_or-loop-link l = map (λ c. c.now) l.found.items ++ flat_map spec.of_link (drop l.link-index l.link-items) ≡ map (λ c. c.now) l.initial.found.items ++ flat_map spec.of_link l.link-items

abbrev pub invariant-add_pipe-loop-command : goal.invariant-add_pipe-loop-command
invariant-add_pipe-loop-command l = map (λ c. c.now) l.found.items ++ flat_map spec.of_command (drop l.command-index l.command-items) ≡ map (λ c. c.now) l.initial.found.items ++ flat_map spec.of_command l.command-items

abbrev pub invariant-add_command-loop-redirect : goal.invariant-add_command-loop-redirect
invariant-add_command-loop-redirect l = map (λ c. c.now) l.found.items ++ flat_map spec.of_redirect (drop l.redirect-index l.redirect-items) ≡ map (λ c. c.now) l.initial.found.items ++ flat_map spec.of_redirect l.redirect-items

abbrev pub invariant-add_elements-loop-element : goal.invariant-add_elements-loop-element
invariant-add_elements-loop-element l = map (λ c. c.now) l.found.items ++ flat_map spec.of_element (drop l.element-index l.elements) ≡ map (λ c. c.now) l.initial.found.items ++ flat_map spec.of_element l.elements

abbrev pub invariant-add_branches-loop-branch : goal.invariant-add_branches-loop-branch
invariant-add_branches-loop-branch l = map (λ c. c.now) l.found.items ++ flat_map spec.of_branch (drop l.branch-index l.branches) ≡ map (λ c. c.now) l.initial.found.items ++ flat_map spec.of_branch l.branches

abbrev pub invariant-add_words-loop-word : goal.invariant-add_words-loop-word
invariant-add_words-loop-word l = map (λ c. c.now) l.found.items ++ flat_map spec.of_word (drop l.word-index l.words) ≡ map (λ c. c.now) l.initial.found.items ++ flat_map spec.of_word l.words

abbrev pub invariant-add_clauses-loop-clause : goal.invariant-add_clauses-loop-clause
invariant-add_clauses-loop-clause l = map (λ c. c.now) l.found.items ++ flat_map spec.of_clause (drop l.clause-index l.clauses) ≡ map (λ c. c.now) l.initial.found.items ++ flat_map spec.of_clause l.clauses

abbrev pub invariant-add_parts-loop-part : goal.invariant-add_parts-loop-part
invariant-add_parts-loop-part l = map (λ c. c.now) l.found.items ++ flat_map spec.of_part (drop l.part-index l.parts) ≡ map (λ c. c.now) l.initial.found.items ++ flat_map spec.of_part l.parts

abbrev pub invariant-add_chain-loop-link : goal.invariant-add_chain-loop-link
invariant-add_chain-loop-link l = map (λ c. c.now) l.found.items ++ flat_map spec.of_step (drop l.link-index l.rest) ≡ map (λ c. c.now) l.initial.found.items ++ flat_map spec.of_step l.rest
