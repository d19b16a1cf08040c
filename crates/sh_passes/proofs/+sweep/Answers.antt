mod Bodies
mod Choices
mod Items
mod Links
mod Loops
mod Words
use Rattle.std.proofs.Common.{rules as std_rules, length, true, ◌≡◌, ◌<◌, ◌≤◌, ◌+◌, ◌∷◌, drop, sym, subst}
use Rattle.sh_tree.specs.standard.Tree.{text_of}
use Rattle.sh_tree.specs.declared.tree.Command.{out-Command}
use Rattle.sh_tree.specs.declared.tree.Pipe.{out-Pipe}
use Rattle.sh_tree.specs.Lists.{elements_from, for_words_from, redirects_from}
use Rattle.sh_tree.specs.standard.program.Syntax as p
use Rattle.sh_tree.specs.standard.program.Trees.{script_of}
use Rattle.sh_tree.proofs.ProgramRules as program
use Rattle.sh_domain.specs.declared.rule.FlowRule.TheVariants.{F10, F11, F12, F13}
use Rattle.sh_domain.specs.Entries as entries
use Rattle.sh_domain.specs.Entries.{Around}
use Rattle.sh_domain.specs.Facts.{Facts}
use Rattle.sh_domain.specs.Knowledge.{knowledge_facts}
use Rattle.sh_domain.specs.Table.{behind_words}
use Rattle.sh_domain.specs.Views.{Before, Seen, at, without_job}
use Rattle.sh_rules.specs.Behind.{both}
use Rattle.sh_rules.specs.Walks as walks
use Rattle.sh_rules.specs.Walks.{facts_in}
use Rattle.sh_sweeps.specs.Sweeps.{AreItems, AreParts, IsCommand, IsIn, IsInside, IsKind, IsList, IsPart, Knows, known_behind, setting_by}
use Rattle.sh_drafts.specs.Ready.{IsReady}
use Rattle.sh_sweeps.proofs.PlacedLemmas.{at_index, begun_at, command_placed, definition_placed, found_below, group_placed, inside_placed, long_placed, parts_left, parts_next, short_placed, subshell_placed}
use Rattle.sh_drafts.proofs.ReadyLemmas.{ready_again, swept_more}
use Rattle.sh_sweeps.proofs.WordLemmas.{elements_placed, for_words_placed, if_ok, kind_as, kind_placed, redirections_placed}
use Rattle.sh_passes.proofs.+sweep.Goals as goal
use Rattle.sh_passes.proofs.+sweep.Answers.Bodies as bodies
use Rattle.sh_passes.proofs.+sweep.Answers.Items as items
use Rattle.sh_passes.proofs.+sweep.Answers.Links as links
use Rattle.sh_passes.proofs.+sweep.Answers.Loops as loops
use Rattle.sh_passes.proofs.+sweep.Answers.Choices as choices
use Rattle.sh_passes.proofs.+sweep.Answers.Words as words

pub sweep::enter_item-enter_process-requires : goal.sweep::enter_item-enter_process-requires
sweep::enter_item-enter_process-requires = items.enter_item-enter_process-requires

pub sweep::enter_item-sweep_and_or-requires : goal.sweep::enter_item-sweep_and_or-requires
sweep::enter_item-sweep_and_or-requires = items.enter_item-sweep_and_or-requires

pub sweep::enter_process-sweep_and_or-requires : goal.sweep::enter_process-sweep_and_or-requires
sweep::enter_process-sweep_and_or-requires = items.enter_process-sweep_and_or-requires

pub sweep::sweep_and_or-sweep_pipe-requires : goal.sweep::sweep_and_or-sweep_pipe-requires
sweep::sweep_and_or-sweep_pipe-requires = links.sweep_and_or-sweep_pipe-requires

pub sweep::sweep_and_or-sweep_joined-requires : goal.sweep::sweep_and_or-sweep_joined-requires
sweep::sweep_and_or-sweep_joined-requires = links.sweep_and_or-sweep_joined-requires

pub links::sweep_joined-pipe_if-behind-requires : goal.links::sweep_joined-pipe_if-behind-requires
links::sweep_joined-pipe_if-behind-requires = links.sweep_joined-pipe_if-behind-requires

pub links::sweep_joined-sweep_links-requires : goal.links::sweep_joined-sweep_links-requires
links::sweep_joined-sweep_links-requires = links.sweep_joined-sweep_links-requires

pub links::sweep_joined-sweep_links_again-requires : goal.links::sweep_joined-sweep_links_again-requires
links::sweep_joined-sweep_links_again-requires = links.sweep_joined-sweep_links_again-requires

pub links::sweep_joined-returns : goal.links::sweep_joined-returns
links::sweep_joined-returns = links.sweep_joined-returns

pub links::sweep_links_again-sweep_links-requires : goal.links::sweep_links_again-sweep_links-requires
links::sweep_links_again-sweep_links-requires = links.sweep_links_again-sweep_links-requires

pub links::sweep_links_again-loop-round-preserved : goal.links::sweep_links_again-loop-round-preserved
links::sweep_links_again-loop-round-preserved = links.sweep_links_again-loop-round-preserved

pub choices::sweep_branch-sweep_items-requires : goal.choices::sweep_branch-sweep_items-requires
choices::sweep_branch-sweep_items-requires = choices.sweep_branch-sweep_items-requires

pub choices::sweep_branch-sweep_left-requires : goal.choices::sweep_branch-sweep_left-requires
choices::sweep_branch-sweep_left-requires = choices.sweep_branch-sweep_left-requires

pub choices::sweep_branch-returns-clause-swept : goal.choices::sweep_branch-returns-clause-swept
choices::sweep_branch-returns-clause-swept = choices.sweep_branch-returns-clause-swept

pub choices::sweep_branch-returns-clause-passed : goal.choices::sweep_branch-returns-clause-passed
choices::sweep_branch-returns-clause-passed = choices.sweep_branch-returns-clause-passed

pub choices::sweep_branches-sweep_branch-requires : goal.choices::sweep_branches-sweep_branch-requires
choices::sweep_branches-sweep_branch-requires = choices.sweep_branches-sweep_branch-requires

pub choices::sweep_branches-loop-place-preserved : goal.choices::sweep_branches-loop-place-preserved
choices::sweep_branches-loop-place-preserved = choices.sweep_branches-loop-place-preserved

pub choices::sweep_branches-returns-then-next-branches-clause-left : goal.choices::sweep_branches-returns-then-next-branches-clause-left
choices::sweep_branches-returns-then-next-branches-clause-left = choices.sweep_branches-returns-then-next-branches-clause-left

pub choices::sweep_branches-returns-clause-left : goal.choices::sweep_branches-returns-clause-left
choices::sweep_branches-returns-clause-left = choices.sweep_branches-returns-clause-left

pub choices::sweep_clauses-loop-place-init : goal.choices::sweep_clauses-loop-place-init
choices::sweep_clauses-loop-place-init = choices.sweep_clauses-loop-place-init

pub choices::sweep_clauses-sweep_clause-requires : goal.choices::sweep_clauses-sweep_clause-requires
choices::sweep_clauses-sweep_clause-requires = choices.sweep_clauses-sweep_clause-requires

pub choices::sweep_clauses-loop-place-preserved : goal.choices::sweep_clauses-loop-place-preserved
choices::sweep_clauses-loop-place-preserved = choices.sweep_clauses-loop-place-preserved

pub choices::sweep_body-sweep_items-requires : goal.choices::sweep_body-sweep_items-requires
choices::sweep_body-sweep_items-requires = choices.sweep_body-sweep_items-requires

pub choices::sweep_body-leave-requires-clause-ready : goal.choices::sweep_body-leave-requires-clause-ready
choices::sweep_body-leave-requires-clause-ready = choices.sweep_body-leave-requires-clause-ready

pub choices::sweep_body-leave-requires-clause-zero : goal.choices::sweep_body-leave-requires-clause-zero
choices::sweep_body-leave-requires-clause-zero = choices.sweep_body-leave-requires-clause-zero

pub choices::sweep_body-leave-requires-clause-nonzero : goal.choices::sweep_body-leave-requires-clause-nonzero
choices::sweep_body-leave-requires-clause-nonzero = choices.sweep_body-leave-requires-clause-nonzero

pub choices::sweep_body-returns-clause-swept : goal.choices::sweep_body-returns-clause-swept
choices::sweep_body-returns-clause-swept = choices.sweep_body-returns-clause-swept

pub choices::sweep_body-returns-clause-passed : goal.choices::sweep_body-returns-clause-passed
choices::sweep_body-returns-clause-passed = choices.sweep_body-returns-clause-passed

pub choices::sweep_cond-sweep_left-requires : goal.choices::sweep_cond-sweep_left-requires
choices::sweep_cond-sweep_left-requires = choices.sweep_cond-sweep_left-requires

pub choices::sweep_cond-leave_unmatched-requires-clause-ready : goal.choices::sweep_cond-leave_unmatched-requires-clause-ready
choices::sweep_cond-leave_unmatched-requires-clause-ready = choices.sweep_cond-leave_unmatched-requires-clause-ready

pub choices::sweep_cond-leave_unmatched-requires-clause-zero : goal.choices::sweep_cond-leave_unmatched-requires-clause-zero
choices::sweep_cond-leave_unmatched-requires-clause-zero = choices.sweep_cond-leave_unmatched-requires-clause-zero

pub choices::sweep_left-sweep_items-requires : goal.choices::sweep_left-sweep_items-requires
choices::sweep_left-sweep_items-requires = choices.sweep_left-sweep_items-requires

pub choices::sweep_left-leave-requires-clause-ready : goal.choices::sweep_left-leave-requires-clause-ready
choices::sweep_left-leave-requires-clause-ready = choices.sweep_left-leave-requires-clause-ready

pub choices::sweep_left-leave-requires-clause-zero : goal.choices::sweep_left-leave-requires-clause-zero
choices::sweep_left-leave-requires-clause-zero = choices.sweep_left-leave-requires-clause-zero

pub choices::sweep_left-leave-requires-clause-nonzero : goal.choices::sweep_left-leave-requires-clause-nonzero
choices::sweep_left-leave-requires-clause-nonzero = choices.sweep_left-leave-requires-clause-nonzero

pub choices::sweep_left-returns : goal.choices::sweep_left-returns
choices::sweep_left-returns = choices.sweep_left-returns

pub sweep::sweep_definition-sweep_command-requires : goal.sweep::sweep_definition-sweep_command-requires
sweep::sweep_definition-sweep_command-requires t c =
    let s = c.args.subject.now in
    let r = c.requires.ready in
    let w = c.requires.placed in
    let k = knowledge_facts s.names.now c.entry_of-known.result in
    let placed : IsCommand s F13 (walks.around s.script.now c.in_function-inner.result) k c.args.body.now =
    subst (λ z. IsCommand s F13 z k c.args.body.now) (sym (c.in_function-inner.ensures s.script.now)) (definition_placed s w.0 w.1 w.2 k (text_of s.script.now c.args.name) c.args.body.now w.3 c.entry_of-known.ensures) in
    search std_rules

pub sweep::sweep_for-sweep_list-requires : goal.sweep::sweep_for-sweep_list-requires
sweep::sweep_for-sweep_list-requires = loops.sweep_for-sweep_list-requires

pub sweep::sweep_list-sweep_items-requires : goal.sweep::sweep_list-sweep_items-requires
unfolding facts_in
sweep::sweep_list-sweep_items-requires t c =
    let s = c.args.subject.now in
    let r = c.requires.ready in
    let y = walks.around s.script.now c.args.around.now in
    let k = knowledge_facts s.names.now c.args.known.now in
    let begun : known_behind s c.begun-course.result.behind ≡ both k = c.begun-course.ensures.behind (setting_by s c.args.draft.now.certificate) in
    let placed : AreItems s c.begun-course.result.by y (known_behind s c.begun-course.result.behind) c.as_slice.result.now =
    begun_at s y k c.begun-course.result c.args.by c.args.list.now c.as_slice.result.now c.begun-course.ensures.by begun c.as_slice.ensures c.requires.placed in
    search std_rules

pub sweep::sweep_loop-sweep_items-requires : goal.sweep::sweep_loop-sweep_items-requires
sweep::sweep_loop-sweep_items-requires = loops.sweep_loop-sweep_items-requires

pub sweep::sweep_loop-sweep_list-requires : goal.sweep::sweep_loop-sweep_list-requires
sweep::sweep_loop-sweep_list-requires = loops.sweep_loop-sweep_list-requires

pub sweep::sweep_and_or-returns : goal.sweep::sweep_and_or-returns
sweep::sweep_and_or-returns = links.sweep_and_or-returns

pub sweep::sweep_inside-returns : goal.sweep::sweep_inside-returns
sweep::sweep_inside-returns t c = record { swept = if_ok c.sweep_kind.result _ _ (λ u h. swept_more c.args.subject.now _ _ _ _ _ c.in_ok-sweep_redirections.ensures.swept h) c.sweep_kind.ensures.swept }

pub sweep::sweep_looked-sweep_simple-requires : goal.sweep::sweep_looked-sweep_simple-requires
sweep::sweep_looked-sweep_simple-requires t c =
    let s = c.args.subject.now in
    let ready : IsReady s c.lower_before.new.draft.certificate c.lower_before.new.draft.probe.count = ready_again s _ _ _ _ c.requires.ready c.in_ok-lower_before.ensures.swept in
    search std_rules

pub sweep::sweep_looked-sweep_compound-requires : goal.sweep::sweep_looked-sweep_compound-requires
sweep::sweep_looked-sweep_compound-requires t c =
    let s = c.args.subject.now in
    let ready : IsReady s c.lower_before.new.draft.certificate c.lower_before.new.draft.probe.count = ready_again s _ _ _ _ c.requires.ready c.in_ok-lower_before.ensures.swept in
    search std_rules

pub sweep::sweep_looked-returns-after-is_new : goal.sweep::sweep_looked-returns-after-is_new
sweep::sweep_looked-returns-after-is_new t c = record { swept = if_ok c.sweep_simple.result _ _ (λ u h. swept_more c.args.subject.now _ _ _ _ _ c.in_ok-lower_before.ensures.swept h) c.sweep_simple.ensures.swept }

pub sweep::sweep_looked-returns-else-is_simple-2 : goal.sweep::sweep_looked-returns-else-is_simple-2
sweep::sweep_looked-returns-else-is_simple-2 t c = record { swept = if_ok c.sweep_compound.result _ _ (λ u h. swept_more c.args.subject.now _ _ _ _ _ c.in_ok-lower_before.ensures.swept h) c.sweep_compound.ensures.swept }

pub sweep::sweep_iteration-returns-in_ok-sweep_for_words-in-For : goal.sweep::sweep_iteration-returns-in_ok-sweep_for_words-in-For
sweep::sweep_iteration-returns-in_ok-sweep_for_words-in-For t c = record { swept = if_ok c.sweep_for.result _ _ (λ u h. swept_more c.args.subject.now _ _ _ _ _ c.in_ok-sweep_for_words-in-For.ensures.swept h) c.sweep_for.ensures.swept }

pub sweep::sweep_loop-returns : goal.sweep::sweep_loop-returns
sweep::sweep_loop-returns t c = record { swept = swept_more c.args.subject.now _ _ _ _ _ c.in_ok-sweep_items.ensures.swept c.in_ok-sweep_list.ensures.swept }

pub sweep::sweep_parts-sweep_command-requires : goal.sweep::sweep_parts-sweep_command-requires
sweep::sweep_parts-sweep_command-requires t c =
    let s = c.args.subject.now in
    let y = walks.around s.script.now c.args.around.now in
    let k = knowledge_facts s.names.now c.args.known.now in
    let next = c.place_of_news-next.result in
    let left = parts_left s y c.args.by k c.is_reached-is_known.result c.args.parts.now c.loop-place.place next c.place_of_news-next.ensures.from c.place_of_news-next.ensures.known c.loop-place.invariant.placed in
    let here : AreParts s c.args.by y k (c.index-parts-next.result ∷ drop (next + 1) c.args.parts.now) =
    subst (AreParts s c.args.by y k) (at_index c.args.parts.now next c.index-parts-next.result (found_below next (length c.args.parts.now) c.place_of_news-next.ensures.there c.if-next-parts.false) c.index-parts-next.is) left in
    let ready : IsReady s c.loop-place.draft.certificate c.loop-place.draft.probe.count = ready_again s _ _ _ _ c.requires.ready c.loop-place.invariant.swept in
    let placed : IsCommand s c.args.by y k c.index-parts-next.result = command_placed s c.args.by y k c.index-parts-next.result _ here in
    search std_rules

pub sweep::sweep_parts-loop-place-preserved : goal.sweep::sweep_parts-loop-place-preserved
sweep::sweep_parts-loop-place-preserved t c =
    let s = c.args.subject.now in
    let y = walks.around s.script.now c.args.around.now in
    let k = knowledge_facts s.names.now c.args.known.now in
    let next = c.place_of_news-next.result in
    let left = parts_left s y c.args.by k c.is_reached-is_known.result c.args.parts.now c.loop-place.place next c.place_of_news-next.ensures.from c.place_of_news-next.ensures.known c.loop-place.invariant.placed in
    let here : AreParts s c.args.by y k (c.index-parts-next.result ∷ drop (next + 1) c.args.parts.now) =
    subst (AreParts s c.args.by y k) (at_index c.args.parts.now next c.index-parts-next.result (found_below next (length c.args.parts.now) c.place_of_news-next.ensures.there c.if-next-parts.false) c.index-parts-next.is) left in
    record {
      swept = swept_more s _ _ _ _ _ c.loop-place.invariant.swept c.in_ok-sweep_command.ensures.swept;
      placed = parts_next s c.args.by y k c.index-parts-next.result _ here;
    }

pub sweep::sweep_pipe-sweep_processes-requires : goal.sweep::sweep_pipe-sweep_processes-requires
sweep::sweep_pipe-sweep_processes-requires t c =
    let s = c.args.subject.now in
    let y = walks.around s.script.now c.args.around.now in
    let k = knowledge_facts s.names.now c.args.known.now in
    let ps = (out-Pipe c.args.pipe.now).parts in
    let long : 1 < length ps = subst (λ cs. 1 < length cs) c.as_slice-parts.ensures c.if-parts-gt1.true in
    let placed : (k' : Facts) → ((q : Seen) → Knows s q k → Knows s (without_job q) k') → AreParts s F12 (entries.part_around true y) k' c.as_slice-parts.result.now =
    λ k' known. subst (AreParts s F12 (entries.part_around true y) k') (sym c.as_slice-parts.ensures) (long_placed s c.args.by y k k' c.args.pipe.now long known c.requires.placed) in
    search std_rules

pub sweep::sweep_pipe-sweep_parts-requires : goal.sweep::sweep_pipe-sweep_parts-requires
sweep::sweep_pipe-sweep_parts-requires t c =
    let s = c.args.subject.now in
    let y = walks.around s.script.now c.args.around.now in
    let k = knowledge_facts s.names.now c.args.known.now in
    let ps = (out-Pipe c.args.pipe.now).parts in
    let short : length ps ≤ 1 = subst (λ cs. length cs ≤ 1) c.as_slice-parts.ensures c.if-parts-gt1.false in
    let placed : AreParts s c.args.by y k c.as_slice-parts.result.now = subst (AreParts s c.args.by y k) (sym c.as_slice-parts.ensures) (short_placed s c.args.by y k c.args.pipe.now short c.requires.placed) in
    search std_rules

pub sweep::sweep_processes-sweep_parts-requires : goal.sweep::sweep_processes-sweep_parts-requires
unfolding entries.item_seen
sweep::sweep_processes-sweep_parts-requires t c =
    let s = c.args.subject.now in
    let k = knowledge_facts s.names.now c.started_in-seen.result in
    let placed : AreParts s F12 (walks.around s.script.now c.round_parts-inner.result) k c.args.parts.now =
    subst (λ z. AreParts s F12 z k c.args.parts.now) (sym (c.round_parts-inner.ensures s.script.now)) (c.requires.placed k c.started_in-seen.ensures) in
    search std_rules

pub sweep::sweep_subshell-sweep_list-requires : goal.sweep::sweep_subshell-sweep_list-requires
sweep::sweep_subshell-sweep_list-requires t c =
    let s = c.args.subject.now in
    let r = c.requires.ready in
    let w = c.requires.placed in
    let k = knowledge_facts s.names.now c.process_of-known.result in
    let placed : IsList s F11 (walks.around s.script.now c.alone-outside.result) k (script_of s.script.now c.args.list.now) =
    subst (λ z. IsList s F11 z k (script_of s.script.now c.args.list.now)) (sym (c.alone-outside.ensures s.script.now))
    (subshell_placed s w.0 c.args.number w.1 k (script_of s.script.now c.args.list.now) w.2 c.process_of-known.ensures) in
    search std_rules

pub sweep::sweep_kind-sweep_elements-requires : goal.sweep::sweep_kind-sweep_elements-requires
sweep::sweep_kind-sweep_elements-requires t c =
    let s = c.args.subject.now in
    let r = c.requires.ready in
    let y = walks.around s.script.now c.args.around.now in
    let k = knowledge_facts s.names.now c.args.known.now in
    let es = elements_from s.script.now c.in-Simple.elements in
    let first = elements_placed s y c.args.number k es (kind_as s y c.args.number k c.args.kind.now _ _ c.in-Simple.is (program.kind_of-Simple s.script.now c.in-Simple.elements) c.requires.placed) in
    let placed : IsIn s (λ q. entries.elements_entered q (behind_words (elements_from s.script.now c.as_slice.result.now) q) (elements_from s.script.now c.as_slice.result.now)) k =
    subst (λ xs. IsIn s (λ q. entries.elements_entered q (behind_words (elements_from s.script.now xs) q) (elements_from s.script.now xs)) k) (sym c.as_slice.ensures) first in
    search std_rules

pub sweep::sweep_kind-sweep_list-requires : goal.sweep::sweep_kind-sweep_list-requires
sweep::sweep_kind-sweep_list-requires t c =
    let s = c.args.subject.now in
    let r = c.requires.ready in
    let y = walks.around s.script.now c.args.around.now in
    let k = knowledge_facts s.names.now c.args.known.now in
    let here = kind_as s y c.args.number k c.args.kind.now _ _ c.in-Group.is (program.kind_of-Group s.script.now c.in-Group.list) c.requires.placed in
    let placed : IsList s F10 y k (script_of s.script.now c.in-Group.list) = group_placed s y c.args.number here.seen k (script_of s.script.now c.in-Group.list) here.part here.knows in
    search std_rules

pub sweep::sweep_kind-sweep_subshell-requires : goal.sweep::sweep_kind-sweep_subshell-requires
sweep::sweep_kind-sweep_subshell-requires t c =
    let s = c.args.subject.now in
    let r = c.requires.ready in
    let y = walks.around s.script.now c.args.around.now in
    let k = knowledge_facts s.names.now c.args.known.now in
    let here = kind_as s y c.args.number k c.args.kind.now _ _ c.in-Subshell.is (program.kind_of-Subshell s.script.now c.in-Subshell.list) c.requires.placed in
    let placed : (z : Around) × (r : Seen) × IsPart s (entries.kind_entered z c.args.number r (p.Subshell (script_of s.script.now c.in-Subshell.list))) = (y, here.seen, here.part) in
    search std_rules

pub sweep::sweep_conditional-sweep_cond-requires : goal.sweep::sweep_conditional-sweep_cond-requires
sweep::sweep_conditional-sweep_cond-requires = choices.sweep_conditional-sweep_cond-requires

pub sweep::sweep_conditional-sweep_case-requires : goal.sweep::sweep_conditional-sweep_case-requires
sweep::sweep_conditional-sweep_case-requires = choices.sweep_conditional-sweep_case-requires

pub sweep::sweep_iteration-sweep_loop-requires : goal.sweep::sweep_iteration-sweep_loop-requires
sweep::sweep_iteration-sweep_loop-requires t c =
    let s = c.args.subject.now in
    let r = c.requires.ready in
    let y = walks.around s.script.now c.args.around.now in
    let k = knowledge_facts s.names.now c.args.known.now in
    let here = kind_as s y c.args.number k c.args.kind.now _ _ c.in-Loop.is (program.kind_of-Loop s.script.now c.in-Loop.kind c.in-Loop.condition c.in-Loop.body) c.requires.placed in
    let placed : (q : Seen) × IsPart s (entries.kind_entered y c.args.number q (p.Loop c.in-Loop.kind (script_of s.script.now c.in-Loop.condition) (script_of s.script.now c.in-Loop.body))) = (here.seen, here.part) in
    search std_rules

pub sweep::sweep_iteration-sweep_for_words-requires : goal.sweep::sweep_iteration-sweep_for_words-requires
sweep::sweep_iteration-sweep_for_words-requires t c =
    let s = c.args.subject.now in
    let r = c.requires.ready in
    let y = walks.around s.script.now c.args.around.now in
    let k = knowledge_facts s.names.now c.args.known.now in
    let here = kind_as s y c.args.number k c.args.kind.now _ _ c.in-For.is (program.kind_of-For s.script.now c.in-For.name c.in-For.words c.in-For.body) c.requires.placed in
    let placed : IsIn s (λ q. entries.for_words_entered q (for_words_from s.script.now c.in-For.words)) k =
    for_words_placed s y c.args.number k (text_of s.script.now c.in-For.name) (for_words_from s.script.now c.in-For.words) (script_of s.script.now c.in-For.body) here in
    search std_rules

pub sweep::sweep_iteration-sweep_for-requires : goal.sweep::sweep_iteration-sweep_for-requires
sweep::sweep_iteration-sweep_for-requires t c =
    let s = c.args.subject.now in
    let r = c.requires.ready in
    let y = walks.around s.script.now c.args.around.now in
    let k = knowledge_facts s.names.now c.args.known.now in
    let ready : IsReady s c.sweep_for_words.new.draft.certificate c.sweep_for_words.new.draft.probe.count = ready_again s _ _ _ _ r c.in_ok-sweep_for_words-in-For.ensures.swept in
    let here = kind_as s y c.args.number k c.args.kind.now _ _ c.in-For.is (program.kind_of-For s.script.now c.in-For.name c.in-For.words c.in-For.body) c.requires.placed in
    let placed : (q : Seen) × (ws : p.ForWords) × IsPart s (entries.kind_entered y c.args.number q (p.For (text_of s.script.now c.in-For.name) ws (script_of s.script.now c.in-For.body))) =
    (here.seen, for_words_from s.script.now c.in-For.words, here.part) in
    search std_rules

pub sweep::sweep_inside-sweep_redirections-requires : goal.sweep::sweep_inside-sweep_redirections-requires
sweep::sweep_inside-sweep_redirections-requires t c =
    let s = c.args.subject.now in
    let r = c.requires.ready in
    let y = walks.around s.script.now c.args.around.now in
    let m = c.args.command.now in
    let first = redirections_placed s y m c.requires.placed in
    let placed : IsPart s (entries.redirects_entered (at (Before (out-Command m).number)) (redirects_from s.script.now c.as_slice-redirects.result.now)) =
    subst (λ rs. IsPart s (entries.redirects_entered (at (Before (out-Command m).number)) (redirects_from s.script.now rs))) (sym c.as_slice-redirects.ensures) first in
    search std_rules

pub sweep::sweep_inside-sweep_kind-requires : goal.sweep::sweep_inside-sweep_kind-requires
sweep::sweep_inside-sweep_kind-requires t c =
    let s = c.args.subject.now in
    let r = c.requires.ready in
    let y = walks.around s.script.now c.args.around.now in
    let m = c.args.command.now in
    let k = knowledge_facts s.names.now c.inside_if-inside.result in
    let ready : IsReady s c.sweep_redirections.new.draft.certificate c.sweep_redirections.new.draft.probe.count = ready_again s _ _ _ _ r c.in_ok-sweep_redirections.ensures.swept in
    let placed : IsKind s y (out-Command m).number k (out-Command m).kind = kind_placed s r.admitted y k m c.requires.placed c.inside_if-inside.ensures in
    search std_rules

pub choices::sweep_case-pass_word-requires : goal.choices::sweep_case-pass_word-requires
choices::sweep_case-pass_word-requires = choices.sweep_case-pass_word-requires

pub choices::sweep_case-sweep_clauses-requires : goal.choices::sweep_case-sweep_clauses-requires
choices::sweep_case-sweep_clauses-requires = choices.sweep_case-sweep_clauses-requires

pub choices::sweep_clause-sweep_patterns-requires : goal.choices::sweep_clause-sweep_patterns-requires
choices::sweep_clause-sweep_patterns-requires = choices.sweep_clause-sweep_patterns-requires

pub words::sweep_elements-loop-place-init : goal.words::sweep_elements-loop-place-init
words::sweep_elements-loop-place-init = words.sweep_elements-loop-place-init

pub words::sweep_elements-sweep_element-requires : goal.words::sweep_elements-sweep_element-requires
words::sweep_elements-sweep_element-requires = words.sweep_elements-sweep_element-requires

pub words::sweep_elements-loop-place-preserved : goal.words::sweep_elements-loop-place-preserved
words::sweep_elements-loop-place-preserved = words.sweep_elements-loop-place-preserved

pub words::sweep_element-sweep_word-requires : goal.words::sweep_element-sweep_word-requires
words::sweep_element-sweep_word-requires = words.sweep_element-sweep_word-requires

pub words::sweep_element-pass_word-requires : goal.words::sweep_element-pass_word-requires
words::sweep_element-pass_word-requires = words.sweep_element-pass_word-requires

pub words::sweep_element-sweep_target-requires : goal.words::sweep_element-sweep_target-requires
words::sweep_element-sweep_target-requires = words.sweep_element-sweep_target-requires

pub words::sweep_redirections-sweep_redirects-requires : goal.words::sweep_redirections-sweep_redirects-requires
words::sweep_redirections-sweep_redirects-requires = words.sweep_redirections-sweep_redirects-requires

pub words::sweep_redirects-pass_target-requires : goal.words::sweep_redirects-pass_target-requires
words::sweep_redirects-pass_target-requires = words.sweep_redirects-pass_target-requires

pub words::sweep_redirects-loop-place-preserved : goal.words::sweep_redirects-loop-place-preserved
words::sweep_redirects-loop-place-preserved = words.sweep_redirects-loop-place-preserved

pub words::pass_target-pass_word-requires : goal.words::pass_target-pass_word-requires
words::pass_target-pass_word-requires = words.pass_target-pass_word-requires

pub words::sweep_for_words-sweep_words-requires : goal.words::sweep_for_words-sweep_words-requires
words::sweep_for_words-sweep_words-requires = words.sweep_for_words-sweep_words-requires

pub words::pass_word-returns-then-not-may_wait_in-clause-gained : goal.words::pass_word-returns-then-not-may_wait_in-clause-gained
words::pass_word-returns-then-not-may_wait_in-clause-gained = words.pass_word-returns-then-not-may_wait_in-clause-gained

pub words::sweep_words-pass_word-requires : goal.words::sweep_words-pass_word-requires
words::sweep_words-pass_word-requires = words.sweep_words-pass_word-requires

pub words::sweep_words-loop-place-preserved : goal.words::sweep_words-loop-place-preserved
words::sweep_words-loop-place-preserved = words.sweep_words-loop-place-preserved

pub words::sweep_patterns-sweep_word-requires : goal.words::sweep_patterns-sweep_word-requires
words::sweep_patterns-sweep_word-requires = words.sweep_patterns-sweep_word-requires

pub words::sweep_patterns-loop-place-preserved : goal.words::sweep_patterns-loop-place-preserved
words::sweep_patterns-loop-place-preserved = words.sweep_patterns-loop-place-preserved

pub words::sweep_word-pass_parts-requires : goal.words::sweep_word-pass_parts-requires
words::sweep_word-pass_parts-requires = words.sweep_word-pass_parts-requires

pub words::pass_parts-loop-place-init : goal.words::pass_parts-loop-place-init
words::pass_parts-loop-place-init = words.pass_parts-loop-place-init

pub words::pass_parts-pass_part-requires : goal.words::pass_parts-pass_part-requires
words::pass_parts-pass_part-requires = words.pass_parts-pass_part-requires

pub words::pass_parts-loop-place-preserved : goal.words::pass_parts-loop-place-preserved
words::pass_parts-loop-place-preserved = words.pass_parts-loop-place-preserved

pub words::pass_parts-returns-then-next-parts-clause-gained : goal.words::pass_parts-returns-then-next-parts-clause-gained
words::pass_parts-returns-then-next-parts-clause-gained = words.pass_parts-returns-then-next-parts-clause-gained

pub words::pass_parts-returns-clause-gained : goal.words::pass_parts-returns-clause-gained
words::pass_parts-returns-clause-gained = words.pass_parts-returns-clause-gained

pub words::open_part-pass_parts-requires : goal.words::open_part-pass_parts-requires
words::open_part-pass_parts-requires = words.open_part-pass_parts-requires

pub words::open_part-pass_operator-requires : goal.words::open_part-pass_operator-requires
words::open_part-pass_operator-requires = words.open_part-pass_operator-requires

pub words::open_part-pass_arithmetic-requires : goal.words::open_part-pass_arithmetic-requires
words::open_part-pass_arithmetic-requires = words.open_part-pass_arithmetic-requires

pub words::open_part-sweep_substitution-requires : goal.words::open_part-sweep_substitution-requires
words::open_part-sweep_substitution-requires = words.open_part-sweep_substitution-requires

pub words::open_part-returns-in-Plain-clause-gained : goal.words::open_part-returns-in-Plain-clause-gained
words::open_part-returns-in-Plain-clause-gained = words.open_part-returns-in-Plain-clause-gained

pub words::open_part-returns-in-Escaped-clause-gained : goal.words::open_part-returns-in-Escaped-clause-gained
words::open_part-returns-in-Escaped-clause-gained = words.open_part-returns-in-Escaped-clause-gained

pub words::open_part-returns-in-Single-clause-gained : goal.words::open_part-returns-in-Single-clause-gained
words::open_part-returns-in-Single-clause-gained = words.open_part-returns-in-Single-clause-gained

pub words::open_part-returns-in-Tilde-clause-gained : goal.words::open_part-returns-in-Tilde-clause-gained
words::open_part-returns-in-Tilde-clause-gained = words.open_part-returns-in-Tilde-clause-gained

pub words::open_part-returns-in-Joined-clause-gained : goal.words::open_part-returns-in-Joined-clause-gained
words::open_part-returns-in-Joined-clause-gained = words.open_part-returns-in-Joined-clause-gained

pub words::enter_substitution-sweep_list-requires : goal.words::enter_substitution-sweep_list-requires
words::enter_substitution-sweep_list-requires = words.enter_substitution-sweep_list-requires

pub words::pass_operator-pass_action-requires : goal.words::pass_operator-pass_action-requires
words::pass_operator-pass_action-requires = words.pass_operator-pass_action-requires

pub words::pass_operator-sweep_word-requires : goal.words::pass_operator-sweep_word-requires
words::pass_operator-sweep_word-requires = words.pass_operator-sweep_word-requires

pub words::pass_operator-returns-in-Value-clause-gained : goal.words::pass_operator-returns-in-Value-clause-gained
words::pass_operator-returns-in-Value-clause-gained = words.pass_operator-returns-in-Value-clause-gained

pub words::pass_operator-returns-in-Length-clause-gained : goal.words::pass_operator-returns-in-Length-clause-gained
words::pass_operator-returns-in-Length-clause-gained = words.pass_operator-returns-in-Length-clause-gained

pub words::pass_action-sweep_word-requires : goal.words::pass_action-sweep_word-requires
words::pass_action-sweep_word-requires = words.pass_action-sweep_word-requires

pub words::pass_arithmetic-returns-clause-gained : goal.words::pass_arithmetic-returns-clause-gained
words::pass_arithmetic-returns-clause-gained = words.pass_arithmetic-returns-clause-gained

pub words::open_expression-pass_part-requires : goal.words::open_expression-pass_part-requires
words::open_expression-pass_part-requires = words.open_expression-pass_part-requires

pub words::open_expression-pass_expression-requires : goal.words::open_expression-pass_expression-requires
words::open_expression-pass_expression-requires = words.open_expression-pass_expression-requires

pub words::open_expression-returns-in-Constant-clause-gained : goal.words::open_expression-returns-in-Constant-clause-gained
words::open_expression-returns-in-Constant-clause-gained = words.open_expression-returns-in-Constant-clause-gained

pub words::open_expression-returns-in-Variable-clause-gained : goal.words::open_expression-returns-in-Variable-clause-gained
words::open_expression-returns-in-Variable-clause-gained = words.open_expression-returns-in-Variable-clause-gained

pub words::open_expression-pass_chain-requires : goal.words::open_expression-pass_chain-requires
words::open_expression-pass_chain-requires = words.open_expression-pass_chain-requires

pub words::open_expression-pass_choice-requires : goal.words::open_expression-pass_choice-requires
words::open_expression-pass_choice-requires = words.open_expression-pass_choice-requires

pub words::pass_chain-pass_expression-requires : goal.words::pass_chain-pass_expression-requires
words::pass_chain-pass_expression-requires = words.pass_chain-pass_expression-requires

pub words::pass_chain-pass_operands-requires : goal.words::pass_chain-pass_operands-requires
words::pass_chain-pass_operands-requires = words.pass_chain-pass_operands-requires

pub words::pass_chain-returns : goal.words::pass_chain-returns
words::pass_chain-returns = words.pass_chain-returns

pub words::pass_operands-loop-place-init : goal.words::pass_operands-loop-place-init
words::pass_operands-loop-place-init = words.pass_operands-loop-place-init

pub words::pass_operands-pass_expression-requires : goal.words::pass_operands-pass_expression-requires
words::pass_operands-pass_expression-requires = words.pass_operands-pass_expression-requires

pub words::pass_operands-loop-place-preserved : goal.words::pass_operands-loop-place-preserved
words::pass_operands-loop-place-preserved = words.pass_operands-loop-place-preserved

pub words::pass_operands-returns-then-next-rest-clause-gained : goal.words::pass_operands-returns-then-next-rest-clause-gained
words::pass_operands-returns-then-next-rest-clause-gained = words.pass_operands-returns-then-next-rest-clause-gained

pub words::pass_operands-returns-clause-gained : goal.words::pass_operands-returns-clause-gained
words::pass_operands-returns-clause-gained = words.pass_operands-returns-clause-gained

pub words::pass_choice-pass_expression-requires : goal.words::pass_choice-pass_expression-requires
words::pass_choice-pass_expression-requires = words.pass_choice-pass_expression-requires

pub words::pass_choice-pass_expression-requires-2 : goal.words::pass_choice-pass_expression-requires-2
words::pass_choice-pass_expression-requires-2 = words.pass_choice-pass_expression-requires-2

pub words::pass_choice-pass_expression-requires-3 : goal.words::pass_choice-pass_expression-requires-3
words::pass_choice-pass_expression-requires-3 = words.pass_choice-pass_expression-requires-3

pub words::pass_choice-returns : goal.words::pass_choice-returns
words::pass_choice-returns = words.pass_choice-returns

pub words::sweep_element-returns-in-Assignment-clause-passed : goal.words::sweep_element-returns-in-Assignment-clause-passed
words::sweep_element-returns-in-Assignment-clause-passed = words.sweep_element-returns-in-Assignment-clause-passed

pub words::sweep_element-returns-in-Word-clause-passed : goal.words::sweep_element-returns-in-Word-clause-passed
words::sweep_element-returns-in-Word-clause-passed = words.sweep_element-returns-in-Word-clause-passed

pub words::sweep_element-returns-in-Redirection-clause-passed : goal.words::sweep_element-returns-in-Redirection-clause-passed
words::sweep_element-returns-in-Redirection-clause-passed = words.sweep_element-returns-in-Redirection-clause-passed

pub words::pass_target-returns-in-File-clause-gained : goal.words::pass_target-returns-in-File-clause-gained
words::pass_target-returns-in-File-clause-gained = words.pass_target-returns-in-File-clause-gained

pub words::pass_target-returns-in-Here-clause-gained : goal.words::pass_target-returns-in-Here-clause-gained
words::pass_target-returns-in-Here-clause-gained = words.pass_target-returns-in-Here-clause-gained

pub words::pass_target-pass_word-requires-in-Here : goal.words::pass_target-pass_word-requires-in-Here
words::pass_target-pass_word-requires-in-Here = words.pass_target-pass_word-requires-in-Here

pub words::open_part-returns-in-Command-clause-gained : goal.words::open_part-returns-in-Command-clause-gained
words::open_part-returns-in-Command-clause-gained = words.open_part-returns-in-Command-clause-gained

pub words::open_part-returns-in-Double-clause-gained : goal.words::open_part-returns-in-Double-clause-gained
words::open_part-returns-in-Double-clause-gained = words.open_part-returns-in-Double-clause-gained

pub words::open_part-returns-in-Param-clause-gained : goal.words::open_part-returns-in-Param-clause-gained
words::open_part-returns-in-Param-clause-gained = words.open_part-returns-in-Param-clause-gained

pub words::open_part-returns-in-Arith-clause-gained : goal.words::open_part-returns-in-Arith-clause-gained
words::open_part-returns-in-Arith-clause-gained = words.open_part-returns-in-Arith-clause-gained

pub words::pass_operator-returns-in-Remove-clause-gained : goal.words::pass_operator-returns-in-Remove-clause-gained
words::pass_operator-returns-in-Remove-clause-gained = words.pass_operator-returns-in-Remove-clause-gained

pub words::pass_operator-returns-in-Use-clause-gained : goal.words::pass_operator-returns-in-Use-clause-gained
words::pass_operator-returns-in-Use-clause-gained = words.pass_operator-returns-in-Use-clause-gained

pub words::open_expression-returns-in-Parenthesis-clause-gained : goal.words::open_expression-returns-in-Parenthesis-clause-gained
words::open_expression-returns-in-Parenthesis-clause-gained = words.open_expression-returns-in-Parenthesis-clause-gained

pub words::open_expression-returns-in-Unary-clause-gained : goal.words::open_expression-returns-in-Unary-clause-gained
words::open_expression-returns-in-Unary-clause-gained = words.open_expression-returns-in-Unary-clause-gained

pub words::open_expression-pass_expression-requires-in-Unary : goal.words::open_expression-pass_expression-requires-in-Unary
words::open_expression-pass_expression-requires-in-Unary = words.open_expression-pass_expression-requires-in-Unary

pub words::open_expression-returns-in-Assign-clause-gained : goal.words::open_expression-returns-in-Assign-clause-gained
words::open_expression-returns-in-Assign-clause-gained = words.open_expression-returns-in-Assign-clause-gained

pub words::open_expression-pass_expression-requires-in-Assign : goal.words::open_expression-pass_expression-requires-in-Assign
words::open_expression-pass_expression-requires-in-Assign = words.open_expression-pass_expression-requires-in-Assign

pub words::open_expression-returns-in-Expansion-clause-gained : goal.words::open_expression-returns-in-Expansion-clause-gained
words::open_expression-returns-in-Expansion-clause-gained = words.open_expression-returns-in-Expansion-clause-gained

pub words::open_expression-returns-in-Chain-clause-gained : goal.words::open_expression-returns-in-Chain-clause-gained
words::open_expression-returns-in-Chain-clause-gained = words.open_expression-returns-in-Chain-clause-gained

pub words::open_expression-returns-in-Choice-clause-gained : goal.words::open_expression-returns-in-Choice-clause-gained
words::open_expression-returns-in-Choice-clause-gained = words.open_expression-returns-in-Choice-clause-gained

pub words::pass_part-returns-then-levels-eq0-clause-gained : goal.words::pass_part-returns-then-levels-eq0-clause-gained
words::pass_part-returns-then-levels-eq0-clause-gained = words.pass_part-returns-then-levels-eq0-clause-gained

pub words::pass_expression-returns-then-levels-eq0-clause-gained : goal.words::pass_expression-returns-then-levels-eq0-clause-gained
words::pass_expression-returns-then-levels-eq0-clause-gained = words.pass_expression-returns-then-levels-eq0-clause-gained

pub choices::sweep_clause-returns-clause-swept : goal.choices::sweep_clause-returns-clause-swept
choices::sweep_clause-returns-clause-swept = choices.sweep_clause-returns-clause-swept

pub choices::sweep_cond-returns-in-Some : goal.choices::sweep_cond-returns-in-Some
choices::sweep_cond-returns-in-Some = choices.sweep_cond-returns-in-Some

pub choices::sweep_cond-returns-in-None : goal.choices::sweep_cond-returns-in-None
choices::sweep_cond-returns-in-None = choices.sweep_cond-returns-in-None

pub sweep::sweep_items-pass_idle-next-requires : goal.sweep::sweep_items-pass_idle-next-requires
sweep::sweep_items-pass_idle-next-requires = items.sweep_items-pass_idle-next-requires

pub sweep::sweep_items-sweep_or_pass-requires : goal.sweep::sweep_items-sweep_or_pass-requires
sweep::sweep_items-sweep_or_pass-requires = items.sweep_items-sweep_or_pass-requires

pub sweep::sweep_or_pass-pass_by-requires-2 : goal.sweep::sweep_or_pass-pass_by-requires-2
sweep::sweep_or_pass-pass_by-requires-2 = items.sweep_or_pass-pass_by-requires-2

pub sweep::sweep_items-loop-place-preserved : goal.sweep::sweep_items-loop-place-preserved
sweep::sweep_items-loop-place-preserved = items.sweep_items-loop-place-preserved

pub sweep::sweep_items-returns-clause-behind : goal.sweep::sweep_items-returns-clause-behind
sweep::sweep_items-returns-clause-behind = items.sweep_items-returns-clause-behind

pub sweep::sweep_simple-sweep_held-requires : goal.sweep::sweep_simple-sweep_held-requires
sweep::sweep_simple-sweep_held-requires t c =
    let s = c.args.subject.now in
    let r = c.requires.ready in
    let y = walks.around s.script.now c.args.around.now in
    let placed : IsInside s y c.args.command.now = inside_placed s c.args.by y (knowledge_facts s.names.now c.args.known.now) c.args.command.now c.requires.placed in
    search std_rules

pub sweep::sweep_simple-sweep_called-requires : goal.sweep::sweep_simple-sweep_called-requires
sweep::sweep_simple-sweep_called-requires t c =
    let s = c.args.subject.now in
    let r = c.requires.ready in
    let ready : IsReady s c.lower_behind.new.draft.certificate c.lower_behind.new.draft.probe.count = ready_again s _ _ _ _ r (swept_more s _ _ _ _ _ c.in_ok-sweep_held.ensures.swept c.in_ok-lower_behind.ensures.swept) in
    search std_rules

pub sweep::sweep_simple-lower_behind-requires-2-clause-ready : goal.sweep::sweep_simple-lower_behind-requires-2-clause-ready
sweep::sweep_simple-lower_behind-requires-2-clause-ready t c =
    let s = c.args.subject.now in
    ready_again s _ _ _ _ c.requires.ready (swept_more s _ _ _ _ _ (swept_more s _ _ _ _ _ c.in_ok-sweep_held.ensures.swept c.in_ok-lower_behind.ensures.swept) c.in_ok-sweep_called.ensures.swept)

pub sweep::sweep_simple-returns : goal.sweep::sweep_simple-returns
sweep::sweep_simple-returns t c =
    let s = c.args.subject.now in
    record { swept = swept_more s _ _ _ _ _ (swept_more s _ _ _ _ _ (swept_more s _ _ _ _ _ c.in_ok-sweep_held.ensures.swept c.in_ok-lower_behind.ensures.swept) c.in_ok-sweep_called.ensures.swept) c.in_ok-lower_behind-2.ensures.swept }

pub sweep::sweep_compound-sweep_inside-requires : goal.sweep::sweep_compound-sweep_inside-requires
sweep::sweep_compound-sweep_inside-requires = bodies.sweep_compound-sweep_inside-requires

pub sweep::sweep_compound-sweep_again-requires : goal.sweep::sweep_compound-sweep_again-requires
sweep::sweep_compound-sweep_again-requires = bodies.sweep_compound-sweep_again-requires

pub sweep::sweep_compound-lower_behind-requires-clause-ready : goal.sweep::sweep_compound-lower_behind-requires-clause-ready
sweep::sweep_compound-lower_behind-requires-clause-ready = bodies.sweep_compound-lower_behind-requires-clause-ready

pub sweep::sweep_compound-returns-then-has_branches : goal.sweep::sweep_compound-returns-then-has_branches
sweep::sweep_compound-returns-then-has_branches = bodies.sweep_compound-returns-then-has_branches

pub sweep::sweep_compound-returns : goal.sweep::sweep_compound-returns
sweep::sweep_compound-returns = bodies.sweep_compound-returns

pub sweep::sweep_again-sweep_inside-requires : goal.sweep::sweep_again-sweep_inside-requires
sweep::sweep_again-sweep_inside-requires = bodies.sweep_again-sweep_inside-requires

pub sweep::sweep_again-loop-round-preserved : goal.sweep::sweep_again-loop-round-preserved
sweep::sweep_again-loop-round-preserved = bodies.sweep_again-loop-round-preserved

pub sweep::sweep_simple-returns-then-not-is_news : goal.sweep::sweep_simple-returns-then-not-is_news
sweep::sweep_simple-returns-then-not-is_news t c = record { swept = swept_more c.args.subject.now _ _ _ _ _ c.in_ok-sweep_held.ensures.swept c.in_ok-lower_behind.ensures.swept }

pub rounds::sweep_rounds-sweep_inside-requires : goal.rounds::sweep_rounds-sweep_inside-requires
rounds::sweep_rounds-sweep_inside-requires = bodies.sweep_rounds-sweep_inside-requires

pub rounds::sweep_rounds-lower_head-requires-in-loop-round-clause-ready : goal.rounds::sweep_rounds-lower_head-requires-in-loop-round-clause-ready
rounds::sweep_rounds-lower_head-requires-in-loop-round-clause-ready = bodies.sweep_rounds-lower_head-requires-in-loop-round-clause-ready

pub rounds::sweep_rounds-loop-round-preserved : goal.rounds::sweep_rounds-loop-round-preserved
rounds::sweep_rounds-loop-round-preserved = bodies.sweep_rounds-loop-round-preserved

pub rounds::sweep_rounds-returns-then-eq : goal.rounds::sweep_rounds-returns-then-eq
rounds::sweep_rounds-returns-then-eq = bodies.sweep_rounds-returns-then-eq

pub rounds::sweep_rounds-returns-then-is_left : goal.rounds::sweep_rounds-returns-then-is_left
rounds::sweep_rounds-returns-then-is_left = bodies.sweep_rounds-returns-then-is_left

pub rounds::sweep_rounds-returns-then-is_once : goal.rounds::sweep_rounds-returns-then-is_once
rounds::sweep_rounds-returns-then-is_once = bodies.sweep_rounds-returns-then-is_once

pub rounds::sweep_rounds-returns : goal.rounds::sweep_rounds-returns
rounds::sweep_rounds-returns = bodies.sweep_rounds-returns

pub bodies::sweep_called-definitions-definitions-requires-clause-some : goal.bodies::sweep_called-definitions-definitions-requires-clause-some
bodies::sweep_called-definitions-definitions-requires-clause-some = bodies.sweep_called-definitions-definitions-requires-clause-some

pub bodies::sweep_called-definitions-definitions-requires-clause-within : goal.bodies::sweep_called-definitions-definitions-requires-clause-within
bodies::sweep_called-definitions-definitions-requires-clause-within = bodies.sweep_called-definitions-definitions-requires-clause-within

pub bodies::sweep_called-sweep_unseen-requires : goal.bodies::sweep_called-sweep_unseen-requires
bodies::sweep_called-sweep_unseen-requires = bodies.sweep_called-sweep_unseen-requires

pub bodies::sweep_called-loop-number-preserved : goal.bodies::sweep_called-loop-number-preserved
bodies::sweep_called-loop-number-preserved = bodies.sweep_called-loop-number-preserved

pub bodies::sweep_function-sweep_defined-requires : goal.bodies::sweep_function-sweep_defined-requires
bodies::sweep_function-sweep_defined-requires = bodies.sweep_function-sweep_defined-requires

pub bodies::sweep_defined-sweep_body-requires : goal.bodies::sweep_defined-sweep_body-requires
bodies::sweep_defined-sweep_body-requires = bodies.sweep_defined-sweep_body-requires

pub bodies::sweep_body-sweep_definition-requires : goal.bodies::sweep_body-sweep_definition-requires
bodies::sweep_body-sweep_definition-requires = bodies.sweep_body-sweep_definition-requires

pub bodies::sweep_body-lower_return-requires-clause-ready : goal.bodies::sweep_body-lower_return-requires-clause-ready
bodies::sweep_body-lower_return-requires-clause-ready = bodies.sweep_body-lower_return-requires-clause-ready

pub bodies::sweep_body-lower_return-requires-clause-stands : goal.bodies::sweep_body-lower_return-requires-clause-stands
bodies::sweep_body-lower_return-requires-clause-stands = bodies.sweep_body-lower_return-requires-clause-stands

pub bodies::sweep_body-place_in-place-requires : goal.bodies::sweep_body-place_in-place-requires
bodies::sweep_body-place_in-place-requires = bodies.sweep_body-place_in-place-requires

pub bodies::sweep_body-lower_return-requires-2-clause-ready : goal.bodies::sweep_body-lower_return-requires-2-clause-ready
bodies::sweep_body-lower_return-requires-2-clause-ready = bodies.sweep_body-lower_return-requires-2-clause-ready

pub bodies::sweep_body-lower_return-requires-2-clause-stands : goal.bodies::sweep_body-lower_return-requires-2-clause-stands
bodies::sweep_body-lower_return-requires-2-clause-stands = bodies.sweep_body-lower_return-requires-2-clause-stands

pub bodies::sweep_body-place_in-other-requires : goal.bodies::sweep_body-place_in-other-requires
bodies::sweep_body-place_in-other-requires = bodies.sweep_body-place_in-other-requires

pub bodies::sweep_body-nonzero_of-nonzero-requires : goal.bodies::sweep_body-nonzero_of-nonzero-requires
bodies::sweep_body-nonzero_of-nonzero-requires = bodies.sweep_body-nonzero_of-nonzero-requires

pub bodies::sweep_body-returns : goal.bodies::sweep_body-returns
bodies::sweep_body-returns = bodies.sweep_body-returns

-- Pipelines after `&&` and `||`

pub links::enter_link-sweep_pipe-requires : goal.links::enter_link-sweep_pipe-requires
links::enter_link-sweep_pipe-requires = links.enter_link-sweep_pipe-requires

pub links::sweep_links-next_link-next-requires : goal.links::sweep_links-next_link-next-requires
links::sweep_links-next_link-next-requires = links.sweep_links-next_link-next-requires

pub links::sweep_links-sweep_link-requires : goal.links::sweep_links-sweep_link-requires
links::sweep_links-sweep_link-requires = links.sweep_links-sweep_link-requires

pub links::sweep_links-loop-place-preserved : goal.links::sweep_links-loop-place-preserved
links::sweep_links-loop-place-preserved = links.sweep_links-loop-place-preserved

pub links::sweep_link-link_if-requires : goal.links::sweep_link-link_if-requires
links::sweep_link-link_if-requires = links.sweep_link-link_if-requires

pub links::sweep_link-returns-clause-passed : goal.links::sweep_link-returns-clause-passed
links::sweep_link-returns-clause-passed = links.sweep_link-returns-clause-passed
