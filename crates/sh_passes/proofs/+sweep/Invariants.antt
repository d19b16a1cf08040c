use Rattle.std.proofs.Common.{drop, length, ◌+◌, ◌-◌, ◌*◌}
use Rattle.sh_tree.specs.Lists.{branches_from, clauses_from, elements_from, operands_from, otherwise_from, parts_from, redirects_from, words_from}
use Rattle.sh_domain.specs.Entries.{operands_entered, patterns_entered, redirects_entered, words_entered}
use Rattle.sh_domain.specs.Gains.{operands_gains, word_gains}
use Rattle.sh_domain.specs.Knowledge.{knowledge_facts}
use Rattle.sh_domain.specs.Views.{After, Seen}
use Rattle.sh_rules.specs.Walks as walks
use Rattle.sh_sweeps.specs.Sweeps.{AreBranches, AreClauses, AreElements, AreItems, AreLinks, AreParts, IsIn, IsWord, Knows, KnowsBehind, known_behind}
use Rattle.sh_drafts.specs.Ready.{IsSwept}
use Rattle.sh_sweeps.proofs.PlacedLemmas.{GoesOn}
use Rattle.sh_sweeps.proofs.WordLemmas.{Along}
use Rattle.sh_passes.proofs.+sweep.Given as goal

-- In each loop the certificate was swept so far, and what is left of the list comes after that.

abbrev pub invariant-sweep::sweep_items-loop-place : goal.invariant-sweep::sweep_items-loop-place
invariant-sweep::sweep_items-loop-place l = record {
  swept : IsSwept l.subject l.initial.draft.certificate l.draft.certificate l.draft.probe.count;
  placed : AreItems l.subject l.course.by (walks.around l.subject.script.now l.around) (known_behind l.subject l.course.behind) (drop l.place l.items);
  goes : (o : After) → KnowsBehind l.subject o (known_behind l.subject l.initial.course.behind) → GoesOn l.subject o (known_behind l.subject l.course.behind) l.items (drop l.place l.items);
}

abbrev pub decreases-sweep::sweep_items-loop-place : goal.decreases-sweep::sweep_items-loop-place
decreases-sweep::sweep_items-loop-place l = length l.items - l.place

abbrev pub invariant-links::sweep_links-loop-place : goal.invariant-links::sweep_links-loop-place
invariant-links::sweep_links-loop-place l = record {
  swept : IsSwept l.subject l.initial.draft.certificate l.draft.certificate l.draft.probe.count;
  placed : AreLinks l.subject (walks.around l.subject.script.now l.around) (known_behind l.subject l.behind) (drop l.place l.links);
}

abbrev pub decreases-links::sweep_links-loop-place : goal.decreases-links::sweep_links-loop-place
decreases-links::sweep_links-loop-place l = length l.links - l.place

abbrev pub invariant-links::sweep_links_again-loop-round : goal.invariant-links::sweep_links_again-loop-round
invariant-links::sweep_links_again-loop-round l = record { swept : IsSwept l.subject l.initial.draft.certificate l.draft.certificate l.draft.probe.count }

abbrev pub invariant-sweep::sweep_parts-loop-place : goal.invariant-sweep::sweep_parts-loop-place
invariant-sweep::sweep_parts-loop-place l = record {
  swept : IsSwept l.subject l.initial.draft.certificate l.draft.certificate l.draft.probe.count;
  placed : AreParts l.subject l.by (walks.around l.subject.script.now l.around) (knowledge_facts l.subject.names.now l.known) (drop l.place l.parts);
}

abbrev pub decreases-sweep::sweep_parts-loop-place : goal.decreases-sweep::sweep_parts-loop-place
decreases-sweep::sweep_parts-loop-place l = length l.parts - l.place

abbrev pub invariant-choices::sweep_branches-loop-place : goal.invariant-choices::sweep_branches-loop-place
invariant-choices::sweep_branches-loop-place l = record {
  swept : IsSwept l.subject l.initial.draft.certificate l.draft.certificate l.draft.probe.count;
  placed : AreBranches l.subject (walks.around l.subject.script.now l.around) l.number (knowledge_facts l.subject.names.now l.known)
      (branches_from l.subject.script.now (drop l.place l.branches)) (otherwise_from l.subject.script.now l.otherwise);
}

abbrev pub decreases-choices::sweep_branches-loop-place : goal.decreases-choices::sweep_branches-loop-place
decreases-choices::sweep_branches-loop-place l = length l.branches - l.place

abbrev pub invariant-choices::sweep_clauses-loop-place : goal.invariant-choices::sweep_clauses-loop-place
invariant-choices::sweep_clauses-loop-place l = record {
  swept : IsSwept l.subject l.initial.draft.certificate l.draft.certificate l.draft.probe.count;
  placed : AreClauses l.subject (walks.around l.subject.script.now l.around) l.number (knowledge_facts l.subject.names.now l.behind) (knowledge_facts l.subject.names.now l.fallen)
      (clauses_from l.subject.script.now (drop l.place l.clauses));
}

abbrev pub decreases-choices::sweep_clauses-loop-place : goal.decreases-choices::sweep_clauses-loop-place
decreases-choices::sweep_clauses-loop-place l = length l.clauses - l.place

abbrev pub invariant-words::sweep_elements-loop-place : goal.invariant-words::sweep_elements-loop-place
invariant-words::sweep_elements-loop-place l = record {
  swept : IsSwept l.subject l.initial.draft.certificate l.draft.certificate l.draft.probe.count;
  placed : AreElements l.subject (knowledge_facts l.subject.names.now l.inside) (knowledge_facts l.subject.names.now l.behind) (elements_from l.subject.script.now (drop l.place l.elements));
}

abbrev pub decreases-words::sweep_elements-loop-place : goal.decreases-words::sweep_elements-loop-place
decreases-words::sweep_elements-loop-place l = length l.elements - l.place

abbrev pub invariant-words::sweep_redirects-loop-place : goal.invariant-words::sweep_redirects-loop-place
invariant-words::sweep_redirects-loop-place l = record {
  swept : IsSwept l.subject l.initial.draft.certificate l.draft.certificate l.draft.probe.count;
  placed : IsIn l.subject (λ q. redirects_entered q (redirects_from l.subject.script.now (drop l.place l.redirects))) (knowledge_facts l.subject.names.now l.inside);
}

abbrev pub decreases-words::sweep_redirects-loop-place : goal.decreases-words::sweep_redirects-loop-place
decreases-words::sweep_redirects-loop-place l = length l.redirects - l.place

abbrev pub invariant-words::sweep_words-loop-place : goal.invariant-words::sweep_words-loop-place
invariant-words::sweep_words-loop-place l = record {
  swept : IsSwept l.subject l.initial.draft.certificate l.draft.certificate l.draft.probe.count;
  placed : IsIn l.subject (λ q. words_entered q (words_from l.subject.script.now (drop l.place l.words))) (knowledge_facts l.subject.names.now l.inside);
}

abbrev pub decreases-words::sweep_words-loop-place : goal.decreases-words::sweep_words-loop-place
decreases-words::sweep_words-loop-place l = length l.words - l.place

abbrev pub invariant-words::sweep_patterns-loop-place : goal.invariant-words::sweep_patterns-loop-place
invariant-words::sweep_patterns-loop-place l = record {
  swept : IsSwept l.subject l.initial.draft.certificate l.draft.certificate l.draft.probe.count;
  placed : IsIn l.subject (λ q. patterns_entered q (words_from l.subject.script.now (drop l.place l.patterns))) (knowledge_facts l.subject.names.now l.known);
}

abbrev pub decreases-words::sweep_patterns-loop-place : goal.decreases-words::sweep_patterns-loop-place
decreases-words::sweep_patterns-loop-place l = length l.patterns - l.place

abbrev pub invariant-words::pass_parts-loop-place : goal.invariant-words::pass_parts-loop-place
invariant-words::pass_parts-loop-place l = record {
  swept : IsSwept l.subject l.initial.draft.certificate l.draft.certificate l.draft.probe.count;
  placed : IsWord l.subject (knowledge_facts l.subject.names.now l.known) (parts_from l.subject.script.now (drop l.place l.parts));
  along : (q : Seen) → Knows l.subject q (knowledge_facts l.subject.names.now l.initial.known) → Along l.subject q (knowledge_facts l.subject.names.now l.known) (word_gains (parts_from l.subject.script.now l.parts)) (word_gains (parts_from l.subject.script.now (drop l.place l.parts)));
}

abbrev pub decreases-words::pass_parts-loop-place : goal.decreases-words::pass_parts-loop-place
decreases-words::pass_parts-loop-place l = length l.parts - l.place

abbrev pub invariant-words::pass_operands-loop-place : goal.invariant-words::pass_operands-loop-place
invariant-words::pass_operands-loop-place l = record {
  swept : IsSwept l.subject l.initial.draft.certificate l.draft.certificate l.draft.probe.count;
  placed : IsIn l.subject (λ q. operands_entered q (operands_from l.subject.script.now (drop l.place l.rest))) (knowledge_facts l.subject.names.now l.known);
  along : (q : Seen) → Knows l.subject q (knowledge_facts l.subject.names.now l.initial.known) → Along l.subject q (knowledge_facts l.subject.names.now l.known) (operands_gains (operands_from l.subject.script.now l.rest)) (operands_gains (operands_from l.subject.script.now (drop l.place l.rest)));
}

abbrev pub decreases-words::pass_operands-loop-place : goal.decreases-words::pass_operands-loop-place
decreases-words::pass_operands-loop-place l = length l.rest - l.place

abbrev pub invariant-sweep::sweep_again-loop-round : goal.invariant-sweep::sweep_again-loop-round
invariant-sweep::sweep_again-loop-round l = record { swept : IsSwept l.subject l.initial.draft.certificate l.draft.certificate l.draft.probe.count }

abbrev pub invariant-rounds::sweep_rounds-loop-round : goal.invariant-rounds::sweep_rounds-loop-round
invariant-rounds::sweep_rounds-loop-round l = record { swept : IsSwept l.subject l.initial.draft.certificate l.draft.certificate l.draft.probe.count }

abbrev pub invariant-bodies::sweep_called-loop-number : goal.invariant-bodies::sweep_called-loop-number
invariant-bodies::sweep_called-loop-number l = record { swept : IsSwept l.subject l.initial.draft.certificate l.draft.certificate l.draft.probe.count }

-- Each level that is gone into takes one of the levels, and within a level each call is a step
-- further in.

abbrev pub decreases-sweep::sweep_looked : goal.decreases-sweep::sweep_looked
decreases-sweep::sweep_looked l = l.levels * 64 + 42

abbrev pub decreases-sweep::sweep_simple : goal.decreases-sweep::sweep_simple
decreases-sweep::sweep_simple l = l.levels * 64 + 40

abbrev pub decreases-sweep::sweep_compound : goal.decreases-sweep::sweep_compound
decreases-sweep::sweep_compound l = l.levels * 64 + 40

abbrev pub decreases-sweep::sweep_again : goal.decreases-sweep::sweep_again
decreases-sweep::sweep_again l = l.levels * 64 + 39

abbrev pub decreases-rounds::sweep_rounds : goal.decreases-rounds::sweep_rounds
decreases-rounds::sweep_rounds l = l.levels * 64 + 39

abbrev pub decreases-bodies::sweep_called : goal.decreases-bodies::sweep_called
decreases-bodies::sweep_called l = l.levels * 64 + 39

abbrev pub decreases-bodies::sweep_unseen : goal.decreases-bodies::sweep_unseen
decreases-bodies::sweep_unseen l = l.levels * 64 + 38

abbrev pub decreases-bodies::sweep_function : goal.decreases-bodies::sweep_function
decreases-bodies::sweep_function l = l.levels * 64 + 37

abbrev pub decreases-sweep::sweep_held : goal.decreases-sweep::sweep_held
decreases-sweep::sweep_held l = l.levels * 64 + 38

abbrev pub decreases-sweep::sweep_inside : goal.decreases-sweep::sweep_inside
decreases-sweep::sweep_inside l = l.levels * 64 + 36

abbrev pub decreases-bodies::sweep_defined : goal.decreases-bodies::sweep_defined
decreases-bodies::sweep_defined l = l.levels * 64 + 36

abbrev pub decreases-bodies::sweep_body : goal.decreases-bodies::sweep_body
decreases-bodies::sweep_body l = l.levels * 64 + 35

abbrev pub decreases-sweep::sweep_kind : goal.decreases-sweep::sweep_kind
decreases-sweep::sweep_kind l = l.levels * 64 + 34

abbrev pub decreases-sweep::sweep_conditional : goal.decreases-sweep::sweep_conditional
decreases-sweep::sweep_conditional l = l.levels * 64 + 32

abbrev pub decreases-sweep::sweep_iteration : goal.decreases-sweep::sweep_iteration
decreases-sweep::sweep_iteration l = l.levels * 64 + 30

abbrev pub decreases-choices::sweep_cond : goal.decreases-choices::sweep_cond
decreases-choices::sweep_cond l = l.levels * 64 + 28

abbrev pub decreases-choices::sweep_case : goal.decreases-choices::sweep_case
decreases-choices::sweep_case l = l.levels * 64 + 28

abbrev pub decreases-choices::sweep_clauses : goal.decreases-choices::sweep_clauses
decreases-choices::sweep_clauses l = l.levels * 64 + 26

abbrev pub decreases-sweep::sweep_loop : goal.decreases-sweep::sweep_loop
decreases-sweep::sweep_loop l = l.levels * 64 + 26

abbrev pub decreases-sweep::sweep_for : goal.decreases-sweep::sweep_for
decreases-sweep::sweep_for l = l.levels * 64 + 26

abbrev pub decreases-sweep::sweep_subshell : goal.decreases-sweep::sweep_subshell
decreases-sweep::sweep_subshell l = l.levels * 64 + 26

abbrev pub decreases-sweep::sweep_definition : goal.decreases-sweep::sweep_definition
decreases-sweep::sweep_definition l = l.levels * 64 + 26

abbrev pub decreases-words::open_part : goal.decreases-words::open_part
decreases-words::open_part l = l.levels * 64 + 24

abbrev pub decreases-choices::sweep_clause : goal.decreases-choices::sweep_clause
decreases-choices::sweep_clause l = l.levels * 64 + 24

abbrev pub decreases-choices::sweep_branches : goal.decreases-choices::sweep_branches
decreases-choices::sweep_branches l = l.levels * 64 + 24

abbrev pub decreases-words::enter_substitution : goal.decreases-words::enter_substitution
decreases-words::enter_substitution l = l.levels * 64 + 21

abbrev pub decreases-words::sweep_substitution : goal.decreases-words::sweep_substitution
decreases-words::sweep_substitution l = l.levels * 64 + 22

abbrev pub decreases-choices::sweep_body : goal.decreases-choices::sweep_body
decreases-choices::sweep_body l = l.levels * 64 + 22

abbrev pub decreases-choices::sweep_left : goal.decreases-choices::sweep_left
decreases-choices::sweep_left l = l.levels * 64 + 20

abbrev pub decreases-choices::sweep_branch : goal.decreases-choices::sweep_branch
decreases-choices::sweep_branch l = l.levels * 64 + 21

abbrev pub decreases-sweep::sweep_list : goal.decreases-sweep::sweep_list
decreases-sweep::sweep_list l = l.levels * 64 + 20

abbrev pub decreases-sweep::sweep_items : goal.decreases-sweep::sweep_items
decreases-sweep::sweep_items l = l.levels * 64 + 18

abbrev pub decreases-sweep::sweep_or_pass : goal.decreases-sweep::sweep_or_pass
decreases-sweep::sweep_or_pass l = l.levels * 64 + 17

abbrev pub decreases-words::sweep_elements : goal.decreases-words::sweep_elements
decreases-words::sweep_elements l = l.levels * 64 + 14

abbrev pub decreases-words::sweep_redirections : goal.decreases-words::sweep_redirections
decreases-words::sweep_redirections l = l.levels * 64 + 14

abbrev pub decreases-sweep::enter_item : goal.decreases-sweep::enter_item
decreases-sweep::enter_item l = l.levels * 64 + 15

abbrev pub decreases-sweep::enter_process : goal.decreases-sweep::enter_process
decreases-sweep::enter_process l = l.levels * 64 + 14

abbrev pub decreases-sweep::sweep_processes : goal.decreases-sweep::sweep_processes
decreases-sweep::sweep_processes l = l.levels * 64 + 5

abbrev pub decreases-words::sweep_target : goal.decreases-words::sweep_target
decreases-words::sweep_target l = l.levels * 64 + 11

abbrev pub decreases-words::sweep_element : goal.decreases-words::sweep_element
decreases-words::sweep_element l = l.levels * 64 + 12

abbrev pub decreases-words::sweep_redirects : goal.decreases-words::sweep_redirects
decreases-words::sweep_redirects l = l.levels * 64 + 12

abbrev pub decreases-words::sweep_for_words : goal.decreases-words::sweep_for_words
decreases-words::sweep_for_words l = l.levels * 64 + 12

abbrev pub decreases-sweep::sweep_and_or : goal.decreases-sweep::sweep_and_or
decreases-sweep::sweep_and_or l = l.levels * 64 + 13

abbrev pub decreases-words::pass_operator : goal.decreases-words::pass_operator
decreases-words::pass_operator l = l.levels * 64 + 10

abbrev pub decreases-words::pass_target : goal.decreases-words::pass_target
decreases-words::pass_target l = l.levels * 64 + 10

abbrev pub decreases-words::sweep_words : goal.decreases-words::sweep_words
decreases-words::sweep_words l = l.levels * 64 + 10

abbrev pub decreases-links::sweep_joined : goal.decreases-links::sweep_joined
decreases-links::sweep_joined l = l.levels * 64 + 12

abbrev pub decreases-links::sweep_links : goal.decreases-links::sweep_links
decreases-links::sweep_links l = l.levels * 64 + 10

abbrev pub decreases-words::pass_word : goal.decreases-words::pass_word
decreases-words::pass_word l = l.levels * 64 + 8

abbrev pub decreases-words::sweep_patterns : goal.decreases-words::sweep_patterns
decreases-words::sweep_patterns l = l.levels * 64 + 8

abbrev pub decreases-words::pass_action : goal.decreases-words::pass_action
decreases-words::pass_action l = l.levels * 64 + 8

abbrev pub decreases-words::open_expression : goal.decreases-words::open_expression
decreases-words::open_expression l = l.levels * 64 + 8

abbrev pub decreases-links::sweep_links_again : goal.decreases-links::sweep_links_again
decreases-links::sweep_links_again l = l.levels * 64 + 11

abbrev pub decreases-links::sweep_link : goal.decreases-links::sweep_link
decreases-links::sweep_link l = l.levels * 64 + 9

abbrev pub decreases-links::enter_link : goal.decreases-links::enter_link
decreases-links::enter_link l = l.levels * 64 + 8

abbrev pub decreases-words::pass_chain : goal.decreases-words::pass_chain
decreases-words::pass_chain l = l.levels * 64 + 6

abbrev pub decreases-words::sweep_word : goal.decreases-words::sweep_word
decreases-words::sweep_word l = l.levels * 64 + 6

abbrev pub decreases-sweep::sweep_pipe : goal.decreases-sweep::sweep_pipe
decreases-sweep::sweep_pipe l = l.levels * 64 + 6

abbrev pub decreases-words::pass_parts : goal.decreases-words::pass_parts
decreases-words::pass_parts l = l.levels * 64 + 4

abbrev pub decreases-words::pass_operands : goal.decreases-words::pass_operands
decreases-words::pass_operands l = l.levels * 64 + 4

abbrev pub decreases-words::pass_choice : goal.decreases-words::pass_choice
decreases-words::pass_choice l = l.levels * 64 + 4

abbrev pub decreases-words::pass_arithmetic : goal.decreases-words::pass_arithmetic
decreases-words::pass_arithmetic l = l.levels * 64 + 4

abbrev pub decreases-sweep::sweep_parts : goal.decreases-sweep::sweep_parts
decreases-sweep::sweep_parts l = l.levels * 64 + 4

abbrev pub decreases-words::pass_part : goal.decreases-words::pass_part
decreases-words::pass_part l = l.levels * 64 + 2

abbrev pub decreases-words::pass_expression : goal.decreases-words::pass_expression
decreases-words::pass_expression l = l.levels * 64 + 2

abbrev pub decreases-sweep::sweep_command : goal.decreases-sweep::sweep_command
decreases-sweep::sweep_command l = l.levels * 64 + 2
