use Rattle.std.proofs.Common.{rules as std_rules, ap, ◌≡◌, ◌≤◌, ◌+◌, ◌∷◌, ◌∙◌, ℕ, List, arith, drop, length, refl, sym, subst}
use Rattle.std.proofs.lemmas.List.{drop_all}
use Rattle.sh_tree.specs.declared.tree.Element.{Element}
use Rattle.sh_tree.specs.Lists.{elements_from, for_words_from, operands_from, parts_from, redirects_from, words_from}
use Rattle.sh_tree.specs.standard.program.Syntax as p
use Rattle.sh_tree.specs.standard.program.Trees.{expression_of, operator_of, parameter_of, part_of, script_of, target_of}
use Rattle.sh_tree.proofs.ProgramRules as program
use Rattle.sh_domain.specs.declared.rule.FlowRule.TheVariants.{F11}
use Rattle.sh_domain.specs.Entries as entries
use Rattle.sh_domain.specs.Gains.{and_gains, assigned_in, expanded_gains, named, operands_gains, operator_gains, part_gains, redirect_gains, word_gains}
use Rattle.sh_domain.specs.Knowledge.{knowledge_facts}
use Rattle.sh_domain.specs.Views.{Before, at}
use Rattle.sh_rules.specs.Walks as walks
use Rattle.sh_sweeps.specs.Sweeps.{AreElements, Gained, IsIn, IsList, IsWord}
use Rattle.sh_drafts.specs.Ready.{IsReady}
use Rattle.sh_sweeps.proofs.PlacedLemmas.{at_index, found_below}
use Rattle.sh_drafts.proofs.ReadyLemmas.{names_numbered, ready_again, swept_more, swept_none}
use Rattle.sh_domain.specs.Facts.{NotReached}
use Rattle.sh_sweeps.proofs.KnownLemmas.{unreached}
use Rattle.sh_sweeps.proofs.WordLemmas.{Along, along_first, along_no_operands, along_no_parts, along_operands, along_parts, arithmetic_gained, arithmetic_placed, assigned_gained, assigned_placed, both_gained, chain_first, chain_gained, chain_rest, choice_condition, choice_gained, choice_no, choice_yes, double_gained, double_placed, element_as, elements_first, expanded_gained, expanded_placed, expansion_gained, expansion_placed, expression_as, expression_gained, file_gained, file_placed, gained_nowhere, here_gained, here_placed, if_ok, link_expression, listed_placed, literal_gained, nothing_gained, operand_inside, operand_next, operand_placed, operands_next, parenthesis_gained, parenthesis_placed, part_as, part_gained, part_placed, pattern_placed, patterns_next, pieces_next, plain_gained, redirect_placed, redirection_next, redirection_placed, redirects_next, remove_placed, signed_gained, signed_placed, substitution_placed, use_gained, use_placed, value_next, value_placed, word_placed, words_next, word_left, elements_left, operands_left, patterns_left, redirects_left, words_left}
use Rattle.sh_passes.proofs.+sweep.Goals as goal

pub sweep_elements-loop-place-init : goal.words::sweep_elements-loop-place-init
sweep_elements-loop-place-init t c =
    let s = c.args.subject.now in
    let r = c.requires.ready in
    let k = knowledge_facts s.names.now c.args.known.now in
    record {
      swept = swept_none s _ _ r;
      placed = elements_first s k (knowledge_facts s.names.now c.behind_operands-behind.result) (elements_from s.script.now c.args.elements.now) c.behind_operands-behind.ensures c.requires.placed;
    }

pub sweep_elements-sweep_element-requires : goal.words::sweep_elements-sweep_element-requires
sweep_elements-sweep_element-requires t c =
    let s = c.args.subject.now in
    let k = knowledge_facts s.names.now c.loop-place.inside in
    let b = knowledge_facts s.names.now c.behind_operands-behind.result in
    let next = c.place_of_redirect-next.result in
    let left = elements_left s k b c.goes_by_one-by_one.result c.args.elements.now c.loop-place.place next (λ none. c.goes_by_one-by_one.ensures.known none s.names.now) c.place_of_redirect-next.ensures.from c.place_of_redirect-next.ensures.known c.loop-place.invariant.placed in
    let here : AreElements s k b (elements_from s.script.now (c.index-elements-next.result ∷ drop (next + 1) c.args.elements.now)) =
    subst (λ xs. AreElements s k b (elements_from s.script.now xs)) (at_index c.args.elements.now next c.index-elements-next.result (found_below next (length c.args.elements.now) c.place_of_redirect-next.ensures.there c.if-next-elements.false) c.index-elements-next.is) left in
    let ready : IsReady s c.loop-place.draft.certificate c.loop-place.draft.probe.count = ready_again s _ _ _ _ c.requires.ready c.loop-place.invariant.swept in
    let placed : (others : List Element) × AreElements s k b (elements_from s.script.now (c.index-elements-next.result ∷ others)) = (_, here) in
    search std_rules

pub sweep_elements-loop-place-preserved : goal.words::sweep_elements-loop-place-preserved
sweep_elements-loop-place-preserved t c =
    let s = c.args.subject.now in
    let k = knowledge_facts s.names.now c.loop-place.inside in
    let b = knowledge_facts s.names.now c.behind_operands-behind.result in
    let next = c.place_of_redirect-next.result in
    let left = elements_left s k b c.goes_by_one-by_one.result c.args.elements.now c.loop-place.place next (λ none. c.goes_by_one-by_one.ensures.known none s.names.now) c.place_of_redirect-next.ensures.from c.place_of_redirect-next.ensures.known c.loop-place.invariant.placed in
    let here : AreElements s k b (elements_from s.script.now (c.index-elements-next.result ∷ drop (next + 1) c.args.elements.now)) =
    subst (λ xs. AreElements s k b (elements_from s.script.now xs)) (at_index c.args.elements.now next c.index-elements-next.result (found_below next (length c.args.elements.now) c.place_of_redirect-next.ensures.there c.if-next-elements.false) c.index-elements-next.is) left in
    record { swept = swept_more s _ _ _ _ _ c.loop-place.invariant.swept c.in_ok-sweep_element.ensures.swept; placed = c.in_ok-sweep_element.ensures.passed _ here }

pub sweep_element-sweep_word-requires : goal.words::sweep_element-sweep_word-requires
sweep_element-sweep_word-requires t c =
    let s = c.args.subject.now in
    let r = c.requires.ready in
    let k = knowledge_facts s.names.now c.args.known.now in
    let b = knowledge_facts s.names.now c.args.behind.now in
    let here = element_as s k b c.args.element.now _ c.requires.placed.0 _ c.in-Assignment.is (program.elements_from-Assignment s.script.now c.in-Assignment.name c.in-Assignment.value c.requires.placed.0) c.requires.placed.1 in
    let placed : IsWord s b (parts_from s.script.now c.in-Assignment.value.parts) = value_placed s k b _ _ _ here in
    search std_rules

pub sweep_element-pass_word-requires : goal.words::sweep_element-pass_word-requires
sweep_element-pass_word-requires t c =
    let s = c.args.subject.now in
    let r = c.requires.ready in
    let k = knowledge_facts s.names.now c.args.known.now in
    let b = knowledge_facts s.names.now c.args.behind.now in
    let here = element_as s k b c.args.element.now _ c.requires.placed.0 _ c.in-Word.is (program.elements_from-Word s.script.now c.in-Word.word c.requires.placed.0) c.requires.placed.1 in
    let placed : IsWord s k (parts_from s.script.now c.in-Word.word.parts) = operand_placed s k b _ _ here in
    search std_rules

pub sweep_element-sweep_target-requires : goal.words::sweep_element-sweep_target-requires
sweep_element-sweep_target-requires t c =
    let s = c.args.subject.now in
    let r = c.requires.ready in
    let k = knowledge_facts s.names.now c.args.known.now in
    let b = knowledge_facts s.names.now c.args.behind.now in
    let here = element_as s k b c.args.element.now _ c.requires.placed.0 _ c.in-Redirection.is (program.elements_from-Redirection s.script.now c.in-Redirection.redirect c.requires.placed.0) c.requires.placed.1 in
    let placed : IsIn s (λ q. entries.redirect_entered q (target_of s.script.now c.in-Redirection.redirect.target)) b = redirection_placed s k b _ _ here in
    search std_rules

pub sweep_redirections-sweep_redirects-requires : goal.words::sweep_redirections-sweep_redirects-requires
sweep_redirections-sweep_redirects-requires t c =
    let s = c.args.subject.now in
    let r = c.requires.ready in
    let k = knowledge_facts s.names.now c.before_if-before.result in
    let placed : IsIn s (λ q. entries.redirects_entered q (redirects_from s.script.now c.args.redirects.now)) k = record { seen = at (Before c.args.number); part = c.requires.placed; knows = c.before_if-before.ensures } in
    search std_rules

pub sweep_redirects-pass_target-requires : goal.words::sweep_redirects-pass_target-requires
sweep_redirects-pass_target-requires t c =
    let s = c.args.subject.now in
    let k = knowledge_facts s.names.now c.loop-place.inside in
    let next = c.place_of_redirect-next.result in
    let left = redirects_left s k c.is_reached-by_one.result c.args.redirects.now c.loop-place.place next (λ none. unreached k _ (c.is_reached-by_one.ensures s.names.now) none) c.place_of_redirect-next.ensures.from c.place_of_redirect-next.ensures.known c.loop-place.invariant.placed in
    let here : IsIn s (λ q. entries.redirects_entered q (redirects_from s.script.now (c.index-redirects-next.result ∷ drop (next + 1) c.args.redirects.now))) k =
    subst (λ xs. IsIn s (λ q. entries.redirects_entered q (redirects_from s.script.now xs)) k) (at_index c.args.redirects.now next c.index-redirects-next.result (found_below next (length c.args.redirects.now) c.place_of_redirect-next.ensures.there c.if-next-redirects.false) c.index-redirects-next.is) left in
    let ready : IsReady s c.loop-place.draft.certificate c.loop-place.draft.probe.count = ready_again s _ _ _ _ c.requires.ready c.loop-place.invariant.swept in
    let placed : IsIn s (λ q. entries.redirect_entered q (target_of s.script.now c.index-redirects-next.result.target)) k = redirect_placed s k c.index-redirects-next.result _ here in
    search std_rules

pub sweep_redirects-loop-place-preserved : goal.words::sweep_redirects-loop-place-preserved
sweep_redirects-loop-place-preserved t c =
    let s = c.args.subject.now in
    let k = knowledge_facts s.names.now c.loop-place.inside in
    let next = c.place_of_redirect-next.result in
    let left = redirects_left s k c.is_reached-by_one.result c.args.redirects.now c.loop-place.place next (λ none. unreached k _ (c.is_reached-by_one.ensures s.names.now) none) c.place_of_redirect-next.ensures.from c.place_of_redirect-next.ensures.known c.loop-place.invariant.placed in
    let here : IsIn s (λ q. entries.redirects_entered q (redirects_from s.script.now (c.index-redirects-next.result ∷ drop (next + 1) c.args.redirects.now))) k =
    subst (λ xs. IsIn s (λ q. entries.redirects_entered q (redirects_from s.script.now xs)) k) (at_index c.args.redirects.now next c.index-redirects-next.result (found_below next (length c.args.redirects.now) c.place_of_redirect-next.ensures.there c.if-next-redirects.false) c.index-redirects-next.is) left in
    record {
      swept = swept_more s _ _ _ _ _ c.loop-place.invariant.swept c.in_ok-pass_target.ensures.swept;
      placed = redirects_next s k (knowledge_facts s.names.now c.pass_target.new.known) c.index-redirects-next.result _ c.in_ok-pass_target.ensures.gained here;
    }

pub pass_target-pass_word-requires : goal.words::pass_target-pass_word-requires
pass_target-pass_word-requires t c =
    let s = c.args.subject.now in
    let r = c.requires.ready in
    let k = knowledge_facts s.names.now c.args.known.now in
    let placed : IsWord s k (parts_from s.script.now c.in-File.word.parts) = file_placed s k _ (subst (λ x. IsIn s (λ q. entries.redirect_entered q x) k) (ap (target_of s.script.now) c.in-File.is ∙ program.target_of-File s.script.now _ c.in-File.word) c.requires.placed) in
    search std_rules

pub sweep_for_words-sweep_words-requires : goal.words::sweep_for_words-sweep_words-requires
sweep_for_words-sweep_words-requires t c =
    let s = c.args.subject.now in
    let r = c.requires.ready in
    let k = knowledge_facts s.names.now c.args.known.now in
    let first = listed_placed s k _ (subst (λ x. IsIn s (λ q. entries.for_words_entered q x) k) (ap (for_words_from s.script.now) c.in-Some.is ∙ program.for_words_from-Some s.script.now c.in-Some.words) c.requires.placed) in
    let placed : IsIn s (λ q. entries.words_entered q (words_from s.script.now c.as_slice.result.now)) k = subst (λ ws. IsIn s (λ q. entries.words_entered q (words_from s.script.now ws)) k) (sym c.as_slice.ensures) first in
    search std_rules

pub pass_word-returns-then-not-may_wait_in-clause-gained : goal.words::pass_word-returns-then-not-may_wait_in-clause-gained
pass_word-returns-then-not-may_wait_in-clause-gained t c =
    let s = c.args.subject.now in
    let k = knowledge_facts s.names.now c.args.known.now in
    let g = word_gains (parts_from s.script.now c.args.word.now.parts) in
    let nowhere : k ≡ NotReached = unreached k _ (c.is_reached.ensures s.names.now) c.if-not-is_reached.true in
    subst (Gained s g k) (sym nowhere) (gained_nowhere s g k)

pub sweep_words-pass_word-requires : goal.words::sweep_words-pass_word-requires
sweep_words-pass_word-requires t c =
    let s = c.args.subject.now in
    let k = knowledge_facts s.names.now c.loop-place.inside in
    let next = c.place_of_text-next.result in
    let left = words_left s k c.is_reached-by_one.result c.args.words.now c.loop-place.place next (λ none. unreached k _ (c.is_reached-by_one.ensures s.names.now) none) c.place_of_text-next.ensures.from c.place_of_text-next.ensures.known c.loop-place.invariant.placed in
    let here : IsIn s (λ q. entries.words_entered q (words_from s.script.now (c.index-words-next.result ∷ drop (next + 1) c.args.words.now))) k =
    subst (λ xs. IsIn s (λ q. entries.words_entered q (words_from s.script.now xs)) k) (at_index c.args.words.now next c.index-words-next.result (found_below next (length c.args.words.now) c.place_of_text-next.ensures.there c.if-next-words.false) c.index-words-next.is) left in
    let ready : IsReady s c.loop-place.draft.certificate c.loop-place.draft.probe.count = ready_again s _ _ _ _ c.requires.ready c.loop-place.invariant.swept in
    let placed : IsWord s k (parts_from s.script.now c.index-words-next.result.parts) = word_placed s k c.index-words-next.result _ here in
    search std_rules

pub sweep_words-loop-place-preserved : goal.words::sweep_words-loop-place-preserved
sweep_words-loop-place-preserved t c =
    let s = c.args.subject.now in
    let k = knowledge_facts s.names.now c.loop-place.inside in
    let next = c.place_of_text-next.result in
    let left = words_left s k c.is_reached-by_one.result c.args.words.now c.loop-place.place next (λ none. unreached k _ (c.is_reached-by_one.ensures s.names.now) none) c.place_of_text-next.ensures.from c.place_of_text-next.ensures.known c.loop-place.invariant.placed in
    let here : IsIn s (λ q. entries.words_entered q (words_from s.script.now (c.index-words-next.result ∷ drop (next + 1) c.args.words.now))) k =
    subst (λ xs. IsIn s (λ q. entries.words_entered q (words_from s.script.now xs)) k) (at_index c.args.words.now next c.index-words-next.result (found_below next (length c.args.words.now) c.place_of_text-next.ensures.there c.if-next-words.false) c.index-words-next.is) left in
    record {
      swept = swept_more s _ _ _ _ _ c.loop-place.invariant.swept c.in_ok-pass_word.ensures.swept;
      placed = words_next s k (knowledge_facts s.names.now c.pass_word.new.known) c.index-words-next.result _ c.in_ok-pass_word.ensures.gained here;
    }

pub sweep_patterns-sweep_word-requires : goal.words::sweep_patterns-sweep_word-requires
sweep_patterns-sweep_word-requires t c =
    let s = c.args.subject.now in
    let k = knowledge_facts s.names.now c.args.known.now in
    let next = c.place_of_text-next.result in
    let left = patterns_left s k c.is_reached-by_one.result c.args.patterns.now c.loop-place.place next c.place_of_text-next.ensures.from c.place_of_text-next.ensures.known c.loop-place.invariant.placed in
    let here : IsIn s (λ q. entries.patterns_entered q (words_from s.script.now (c.index-patterns-next.result ∷ drop (next + 1) c.args.patterns.now))) k =
    subst (λ xs. IsIn s (λ q. entries.patterns_entered q (words_from s.script.now xs)) k) (at_index c.args.patterns.now next c.index-patterns-next.result (found_below next (length c.args.patterns.now) c.place_of_text-next.ensures.there c.if-next-patterns.false) c.index-patterns-next.is) left in
    let ready : IsReady s c.loop-place.draft.certificate c.loop-place.draft.probe.count = ready_again s _ _ _ _ c.requires.ready c.loop-place.invariant.swept in
    let placed : IsWord s k (parts_from s.script.now c.index-patterns-next.result.parts) = pattern_placed s k c.index-patterns-next.result _ here in
    search std_rules

pub sweep_patterns-loop-place-preserved : goal.words::sweep_patterns-loop-place-preserved
sweep_patterns-loop-place-preserved t c =
    let s = c.args.subject.now in
    let k = knowledge_facts s.names.now c.args.known.now in
    let next = c.place_of_text-next.result in
    let left = patterns_left s k c.is_reached-by_one.result c.args.patterns.now c.loop-place.place next c.place_of_text-next.ensures.from c.place_of_text-next.ensures.known c.loop-place.invariant.placed in
    let here : IsIn s (λ q. entries.patterns_entered q (words_from s.script.now (c.index-patterns-next.result ∷ drop (next + 1) c.args.patterns.now))) k =
    subst (λ xs. IsIn s (λ q. entries.patterns_entered q (words_from s.script.now xs)) k) (at_index c.args.patterns.now next c.index-patterns-next.result (found_below next (length c.args.patterns.now) c.place_of_text-next.ensures.there c.if-next-patterns.false) c.index-patterns-next.is) left in
    record {
      swept = swept_more s _ _ _ _ _ c.loop-place.invariant.swept c.in_ok-sweep_word.ensures.swept;
      placed = patterns_next s k c.index-patterns-next.result _ here;
    }

pub sweep_word-pass_parts-requires : goal.words::sweep_word-pass_parts-requires
sweep_word-pass_parts-requires t c =
    let s = c.args.subject.now in
    let r = c.requires.ready in
    let k = knowledge_facts s.names.now c.args.known.now in
    let placed : IsWord s k (parts_from s.script.now c.as_slice.result.now) = subst (λ ps. IsWord s k (parts_from s.script.now ps)) (sym c.as_slice.ensures) c.requires.placed in
    search std_rules

pub pass_parts-loop-place-init : goal.words::pass_parts-loop-place-init
pass_parts-loop-place-init t c =
    let s = c.args.subject.now in
    let r = c.requires.ready in
    record { swept = swept_none s _ _ r; placed = c.requires.placed; along = λ q w. along_first s q _ _ w }

pub pass_parts-pass_part-requires : goal.words::pass_parts-pass_part-requires
pass_parts-pass_part-requires t c =
    let s = c.args.subject.now in
    let r = c.requires.ready in
    let k = knowledge_facts s.names.now c.loop-place.known in
    let next = c.place_of_text-next.result in
    let left = word_left s _ (names_numbered s _ _ r) r.over c.loop-place.known c.is_reached-is_known.result (word_gains (parts_from s.script.now c.args.parts.now)) (knowledge_facts s.names.now c.args.known.now) c.args.parts.now c.loop-place.place next (c.is_reached-is_known.ensures s.names.now) c.place_of_text-next.ensures.from c.place_of_text-next.ensures.known (c.loop-place.invariant.placed, c.loop-place.invariant.along) in
    let at = at_index c.args.parts.now next c.index-parts-next.result (found_below next (length c.args.parts.now) c.place_of_text-next.ensures.there c.if-next-parts.false) c.index-parts-next.is in
    let here : IsWord s k (parts_from s.script.now (c.index-parts-next.result ∷ drop (next + 1) c.args.parts.now)) = subst (λ xs. IsWord s k (parts_from s.script.now xs)) at left.0 in
    let ready : IsReady s c.loop-place.draft.certificate c.loop-place.draft.probe.count = ready_again s _ _ _ _ r c.loop-place.invariant.swept in
    let placed : IsIn s (λ q. entries.part_entered q (part_of s.script.now c.index-parts-next.result)) k = part_placed s k c.index-parts-next.result _ here in
    search std_rules

pub pass_parts-loop-place-preserved : goal.words::pass_parts-loop-place-preserved
pass_parts-loop-place-preserved t c =
    let s = c.args.subject.now in
    let r = c.requires.ready in
    let k = knowledge_facts s.names.now c.loop-place.known in
    let next = c.place_of_text-next.result in
    let left = word_left s _ (names_numbered s _ _ r) r.over c.loop-place.known c.is_reached-is_known.result (word_gains (parts_from s.script.now c.args.parts.now)) (knowledge_facts s.names.now c.args.known.now) c.args.parts.now c.loop-place.place next (c.is_reached-is_known.ensures s.names.now) c.place_of_text-next.ensures.from c.place_of_text-next.ensures.known (c.loop-place.invariant.placed, c.loop-place.invariant.along) in
    let at = at_index c.args.parts.now next c.index-parts-next.result (found_below next (length c.args.parts.now) c.place_of_text-next.ensures.there c.if-next-parts.false) c.index-parts-next.is in
    let here : IsWord s k (parts_from s.script.now (c.index-parts-next.result ∷ drop (next + 1) c.args.parts.now)) = subst (λ xs. IsWord s k (parts_from s.script.now xs)) at left.0 in
    record {
      swept = swept_more s _ _ _ _ _ c.loop-place.invariant.swept c.in_ok-pass_part.ensures.swept;
      placed = pieces_next s k (knowledge_facts s.names.now c.pass_part.new.known) c.index-parts-next.result _ c.in_ok-pass_part.ensures.gained here;
      along = λ q w. along_parts s _ (names_numbered s _ _ r) r.over q k _ _ c.index-parts-next.result _ c.in_ok-pass_part.ensures.gained
          (subst (λ xs. Along s q k (word_gains (parts_from s.script.now c.args.parts.now)) (word_gains (parts_from s.script.now xs))) at (left.1 q w));
    }

pub pass_parts-returns-then-next-parts-clause-gained : goal.words::pass_parts-returns-then-next-parts-clause-gained
pass_parts-returns-then-next-parts-clause-gained t c =
    λ q w.
    let s = c.args.subject.now in
    let r = c.requires.ready in
    let k = knowledge_facts s.names.now c.loop-place.known in
    let next = c.place_of_text-next.result in
    let left = word_left s _ (names_numbered s _ _ r) r.over c.loop-place.known c.is_reached-is_known.result (word_gains (parts_from s.script.now c.args.parts.now)) (knowledge_facts s.names.now c.args.known.now) c.args.parts.now c.loop-place.place next (c.is_reached-is_known.ensures s.names.now) c.place_of_text-next.ensures.from c.place_of_text-next.ensures.known (c.loop-place.invariant.placed, c.loop-place.invariant.along) in
    let over : length c.args.parts.now ≤ next = omega (arith, c.if-next-parts.true) in
    along_no_parts s _ (names_numbered s _ _ r) r.over q _ _
    (subst (λ xs. Along s q k (word_gains (parts_from s.script.now c.args.parts.now)) (word_gains (parts_from s.script.now xs))) (drop_all next c.args.parts.now over) (left.1 q w))

pub pass_parts-returns-clause-gained : goal.words::pass_parts-returns-clause-gained
pass_parts-returns-clause-gained t c =
    λ q w.
    let s = c.args.subject.now in
    let r = c.requires.ready in
    along_no_parts s _ (names_numbered s _ _ r) r.over q _ _
    (subst (λ xs. Along s q (knowledge_facts s.names.now c.loop-place.known) (word_gains (parts_from s.script.now c.args.parts.now)) (word_gains (parts_from s.script.now xs))) (drop_all c.loop-place.place c.args.parts.now c.loop-place-test.false) (c.loop-place.invariant.along q w))

pub open_part-pass_parts-requires : goal.words::open_part-pass_parts-requires
open_part-pass_parts-requires t c =
    let s = c.args.subject.now in
    let r = c.requires.ready in
    let k = knowledge_facts s.names.now c.args.known.now in
    let first = double_placed s k _ (part_as s k c.args.part.now _ _ c.in-Double.is (program.part_of-Double s.script.now _ c.in-Double.parts) c.requires.placed) in
    let placed : IsWord s k (parts_from s.script.now c.as_slice.result.now) = subst (λ ps. IsWord s k (parts_from s.script.now ps)) (sym c.as_slice.ensures) first in
    search std_rules

pub open_part-pass_operator-requires : goal.words::open_part-pass_operator-requires
open_part-pass_operator-requires t c =
    let s = c.args.subject.now in
    let r = c.requires.ready in
    let k = knowledge_facts s.names.now c.args.known.now in
    let placed : IsIn s (λ q. entries.operator_entered q (parameter_of s.script.now c.in-Param.param.subject) (operator_of s.script.now c.in-Param.param.operator)) k = expansion_placed s k _ _ _ (part_as s k c.args.part.now _ _ c.in-Param.is (program.part_of-Param s.script.now c.in-Param.param) c.requires.placed) in
    search std_rules

pub open_part-pass_arithmetic-requires : goal.words::open_part-pass_arithmetic-requires
open_part-pass_arithmetic-requires t c =
    let s = c.args.subject.now in
    let r = c.requires.ready in
    let k = knowledge_facts s.names.now c.args.known.now in
    let first = arithmetic_placed s k _ _ (part_as s k c.args.part.now _ _ c.in-Arith.is (program.part_of-Arith s.script.now _ c.in-Arith.expression) c.requires.placed) in
    let placed : IsIn s (λ q. entries.expression_entered q (expression_of s.script.now c.get.result.now)) k = subst (λ x. IsIn s (λ q. entries.expression_entered q (expression_of s.script.now x)) k) (sym c.get.ensures) first in
    search std_rules

pub open_part-sweep_substitution-requires : goal.words::open_part-sweep_substitution-requires
open_part-sweep_substitution-requires t c =
    let s = c.args.subject.now in
    let r = c.requires.ready in
    let k = knowledge_facts s.names.now c.args.known.now in
    let placed : (offset : ℕ) × IsIn s (λ q. entries.part_entered q (p.Substitution offset (script_of s.script.now c.in-Command.list))) k = (_, part_as s k c.args.part.now _ _ c.in-Command.is (program.part_of-Command s.script.now _ _ c.in-Command.list) c.requires.placed) in
    search std_rules

pub open_part-returns-in-Plain-clause-gained : goal.words::open_part-returns-in-Plain-clause-gained
unfolding part_gains
open_part-returns-in-Plain-clause-gained t c =
    let s = c.args.subject.now in
    let r = c.requires.ready in
    let k = knowledge_facts s.names.now c.args.known.now in
    plain_gained s _ (names_numbered s _ _ r) r.over k c.args.part.now _ _ c.in-Plain.is (program.part_of-Plain s.script.now _) refl

pub open_part-returns-in-Escaped-clause-gained : goal.words::open_part-returns-in-Escaped-clause-gained
unfolding part_gains
open_part-returns-in-Escaped-clause-gained t c =
    let s = c.args.subject.now in
    let r = c.requires.ready in
    let k = knowledge_facts s.names.now c.args.known.now in
    plain_gained s _ (names_numbered s _ _ r) r.over k c.args.part.now _ _ c.in-Escaped.is (program.part_of-Escaped s.script.now _) refl

pub open_part-returns-in-Single-clause-gained : goal.words::open_part-returns-in-Single-clause-gained
unfolding part_gains
open_part-returns-in-Single-clause-gained t c =
    let s = c.args.subject.now in
    let r = c.requires.ready in
    let k = knowledge_facts s.names.now c.args.known.now in
    plain_gained s _ (names_numbered s _ _ r) r.over k c.args.part.now _ _ c.in-Single.is (program.part_of-Single s.script.now _ _) refl

pub open_part-returns-in-Tilde-clause-gained : goal.words::open_part-returns-in-Tilde-clause-gained
unfolding part_gains
open_part-returns-in-Tilde-clause-gained t c =
    let s = c.args.subject.now in
    let r = c.requires.ready in
    let k = knowledge_facts s.names.now c.args.known.now in
    plain_gained s _ (names_numbered s _ _ r) r.over k c.args.part.now _ _ c.in-Tilde.is (program.part_of-Tilde s.script.now _) refl

pub open_part-returns-in-Joined-clause-gained : goal.words::open_part-returns-in-Joined-clause-gained
unfolding part_gains
open_part-returns-in-Joined-clause-gained t c =
    let s = c.args.subject.now in
    let r = c.requires.ready in
    let k = knowledge_facts s.names.now c.args.known.now in
    plain_gained s _ (names_numbered s _ _ r) r.over k c.args.part.now _ _ c.in-Joined.is (program.part_of-Joined s.script.now _) refl

pub enter_substitution-sweep_list-requires : goal.words::enter_substitution-sweep_list-requires
unfolding entries.item_seen
enter_substitution-sweep_list-requires t c =
    let s = c.args.subject.now in
    let r = c.requires.ready in
    let k = knowledge_facts s.names.now c.args.known.now in
    let w = c.requires.placed in
    let l = knowledge_facts s.names.now c.started_in-seen.result in
    let placed : IsList s F11 (walks.around s.script.now c.alone-outside.result) l (script_of s.script.now c.args.list.now) =
    subst (λ z. IsList s F11 z l (script_of s.script.now c.args.list.now)) (sym (c.alone-outside.ensures s.script.now))
    (substitution_placed s k l w.0 (script_of s.script.now c.args.list.now) c.started_in-seen.ensures w.1) in
    search std_rules

pub pass_operator-pass_action-requires : goal.words::pass_operator-pass_action-requires
pass_operator-pass_action-requires t c =
    let s = c.args.subject.now in
    let r = c.requires.ready in
    let k = knowledge_facts s.names.now c.args.known.now in
    let placed : IsIn s (λ q. entries.word_entered (entries.operand_seen c.in-Use.action (parameter_of s.script.now c.args.parameter) q) (parts_from s.script.now c.in-Use.word.parts)) k =
    use_placed s k _ _ _ _ (subst (λ x. IsIn s (λ q. entries.operator_entered q (parameter_of s.script.now c.args.parameter) x) k) (ap (operator_of s.script.now) c.in-Use.is ∙ program.operator_of-Use s.script.now c.in-Use.action _ c.in-Use.word) c.requires.placed) in
    search std_rules

pub pass_operator-sweep_word-requires : goal.words::pass_operator-sweep_word-requires
pass_operator-sweep_word-requires t c =
    let s = c.args.subject.now in
    let r = c.requires.ready in
    let k = knowledge_facts s.names.now c.args.known.now in
    let placed : IsWord s k (parts_from s.script.now c.in-Remove.pattern.parts) = remove_placed s k _ _ _ (subst (λ x. IsIn s (λ q. entries.operator_entered q (parameter_of s.script.now c.args.parameter) x) k) (ap (operator_of s.script.now) c.in-Remove.is ∙ program.operator_of-Remove s.script.now _ c.in-Remove.pattern) c.requires.placed) in
    search std_rules

pub pass_operator-returns-in-Value-clause-gained : goal.words::pass_operator-returns-in-Value-clause-gained
unfolding operator_gains
pass_operator-returns-in-Value-clause-gained t c =
    let s = c.args.subject.now in
    let r = c.requires.ready in
    let k = knowledge_facts s.names.now c.args.known.now in
    subst (λ x. Gained s (operator_gains (parameter_of s.script.now c.args.parameter) x) k k) (sym (ap (operator_of s.script.now) c.in-Value.is ∙ program.operator_of-Value s.script.now)) (nothing_gained s _ (names_numbered s _ _ r) r.over k _ refl)

pub pass_operator-returns-in-Length-clause-gained : goal.words::pass_operator-returns-in-Length-clause-gained
unfolding operator_gains
pass_operator-returns-in-Length-clause-gained t c =
    let s = c.args.subject.now in
    let r = c.requires.ready in
    let k = knowledge_facts s.names.now c.args.known.now in
    subst (λ x. Gained s (operator_gains (parameter_of s.script.now c.args.parameter) x) k k) (sym (ap (operator_of s.script.now) c.in-Length.is ∙ program.operator_of-Length s.script.now)) (nothing_gained s _ (names_numbered s _ _ r) r.over k _ refl)

pub pass_action-sweep_word-requires : goal.words::pass_action-sweep_word-requires
pass_action-sweep_word-requires t c =
    let s = c.args.subject.now in
    let r = c.requires.ready in
    let k = knowledge_facts s.names.now c.args.known.now in
    let l = knowledge_facts s.names.now c.operand_of-inside.result in
    let placed : IsWord s l (parts_from s.script.now c.args.word.now.parts) = operand_inside s k l _ _ _ c.operand_of-inside.ensures c.requires.placed in
    search std_rules

pub pass_arithmetic-returns-clause-gained : goal.words::pass_arithmetic-returns-clause-gained
pass_arithmetic-returns-clause-gained t c =
    let s = c.args.subject.now in
    let r = c.requires.ready in
    let k = knowledge_facts s.names.now c.args.known.now in
    both_gained s _ (names_numbered s _ _ r) r.over k (knowledge_facts s.names.now c.pass_expression.new.known) _ _ _ c.in_ok-pass_expression.ensures.gained c.behind_assigned.ensures

pub open_expression-pass_part-requires : goal.words::open_expression-pass_part-requires
open_expression-pass_part-requires t c =
    let s = c.args.subject.now in
    let r = c.requires.ready in
    let k = knowledge_facts s.names.now c.args.known.now in
    let placed : IsIn s (λ q. entries.part_entered q (part_of s.script.now c.in-Expansion.part)) k = expanded_placed s k _ (expression_as s k c.args.expression.now _ _ c.in-Expansion.is (program.expression_of-Expansion s.script.now c.in-Expansion.part) c.requires.placed) in
    search std_rules

pub open_expression-pass_expression-requires : goal.words::open_expression-pass_expression-requires
open_expression-pass_expression-requires t c =
    let s = c.args.subject.now in
    let r = c.requires.ready in
    let k = knowledge_facts s.names.now c.args.known.now in
    let first = parenthesis_placed s k _ (expression_as s k c.args.expression.now _ _ c.in-Parenthesis.is (program.expression_of-Parenthesis s.script.now c.in-Parenthesis.inner) c.requires.placed) in
    let placed : IsIn s (λ q. entries.expression_entered q (expression_of s.script.now c.get.result.now)) k = subst (λ x. IsIn s (λ q. entries.expression_entered q (expression_of s.script.now x)) k) (sym c.get.ensures) first in
    search std_rules

pub open_expression-returns-in-Constant-clause-gained : goal.words::open_expression-returns-in-Constant-clause-gained
unfolding part_gains
open_expression-returns-in-Constant-clause-gained t c =
    let s = c.args.subject.now in
    let r = c.requires.ready in
    let k = knowledge_facts s.names.now c.args.known.now in
    literal_gained s _ (names_numbered s _ _ r) r.over k c.args.expression.now _ _ c.in-Constant.is (program.expression_of-Constant s.script.now _) refl

pub open_expression-returns-in-Variable-clause-gained : goal.words::open_expression-returns-in-Variable-clause-gained
unfolding part_gains
open_expression-returns-in-Variable-clause-gained t c =
    let s = c.args.subject.now in
    let r = c.requires.ready in
    let k = knowledge_facts s.names.now c.args.known.now in
    literal_gained s _ (names_numbered s _ _ r) r.over k c.args.expression.now _ _ c.in-Variable.is (program.expression_of-Variable s.script.now _) refl

pub open_expression-pass_chain-requires : goal.words::open_expression-pass_chain-requires
open_expression-pass_chain-requires t c =
    let s = c.args.subject.now in
    let r = c.requires.ready in
    let k = knowledge_facts s.names.now c.args.known.now in
    let first = expression_as s k c.args.expression.now _ _ c.in-Chain.is (program.expression_of-Chain s.script.now c.in-Chain.first c.in-Chain.rest) c.requires.placed in
    let placed : IsIn s (λ q. entries.expression_entered q (p.Chain (expression_of s.script.now c.get-in-Chain.result.now) (operands_from s.script.now c.as_slice.result.now))) k =
    subst (λ x. IsIn s (λ q. entries.expression_entered q (p.Chain (expression_of s.script.now x) (operands_from s.script.now c.as_slice.result.now))) k) (sym c.get-in-Chain.ensures)
    (subst (λ xs. IsIn s (λ q. entries.expression_entered q (p.Chain (expression_of s.script.now c.in-Chain.first) (operands_from s.script.now xs))) k) (sym c.as_slice.ensures) first) in
    search std_rules

pub open_expression-pass_choice-requires : goal.words::open_expression-pass_choice-requires
open_expression-pass_choice-requires t c =
    let s = c.args.subject.now in
    let r = c.requires.ready in
    let k = knowledge_facts s.names.now c.args.known.now in
    let first = expression_as s k c.args.expression.now _ _ c.in-Choice.is (program.expression_of-Choice s.script.now c.in-Choice.condition c.in-Choice.yes c.in-Choice.no) c.requires.placed in
    let placed : IsIn s (λ q. entries.expression_entered q (p.Choice (expression_of s.script.now c.get-in-Choice.result.now) (expression_of s.script.now c.get-in-Choice-2.result.now) (expression_of s.script.now c.get-in-Choice-3.result.now))) k =
    subst (λ x. IsIn s (λ q. entries.expression_entered q (p.Choice (expression_of s.script.now x) (expression_of s.script.now c.get-in-Choice-2.result.now) (expression_of s.script.now c.get-in-Choice-3.result.now))) k) (sym c.get-in-Choice.ensures)
    (subst (λ x. IsIn s (λ q. entries.expression_entered q (p.Choice (expression_of s.script.now c.in-Choice.condition) (expression_of s.script.now x) (expression_of s.script.now c.get-in-Choice-3.result.now))) k) (sym c.get-in-Choice-2.ensures)
    (subst (λ x. IsIn s (λ q. entries.expression_entered q (p.Choice (expression_of s.script.now c.in-Choice.condition) (expression_of s.script.now c.in-Choice.yes) (expression_of s.script.now x))) k) (sym c.get-in-Choice-3.ensures) first)) in
    search std_rules

pub pass_chain-pass_expression-requires : goal.words::pass_chain-pass_expression-requires
pass_chain-pass_expression-requires t c =
    let s = c.args.subject.now in
    let r = c.requires.ready in
    let k = knowledge_facts s.names.now c.args.known.now in
    let placed : IsIn s (λ q. entries.expression_entered q (expression_of s.script.now c.args.first.now)) k = chain_first s k (expression_of s.script.now c.args.first.now) (operands_from s.script.now c.args.rest.now) c.requires.placed in
    search std_rules

pub pass_chain-pass_operands-requires : goal.words::pass_chain-pass_operands-requires
pass_chain-pass_operands-requires t c =
    let s = c.args.subject.now in
    let r = c.requires.ready in
    let k = knowledge_facts s.names.now c.args.known.now in
    let ready : IsReady s c.pass_expression.new.draft.certificate c.pass_expression.new.draft.probe.count = ready_again s _ _ _ _ r c.in_ok-pass_expression.ensures.swept in
    let l = (knowledge_facts s.names.now c.pass_expression.new.known) in
    let placed : IsIn s (λ q. entries.operands_entered q (operands_from s.script.now c.args.rest.now)) l = chain_rest s k l (expression_of s.script.now c.args.first.now) (operands_from s.script.now c.args.rest.now) c.in_ok-pass_expression.ensures.gained c.requires.placed in
    search std_rules

pub pass_chain-returns : goal.words::pass_chain-returns
pass_chain-returns t c =
    let s = c.args.subject.now in
    let r = c.requires.ready in
    let k = knowledge_facts s.names.now c.args.known.now in
    record {
      swept = swept_more s _ _ _ _ _ c.in_ok-pass_expression.ensures.swept c.in_ok-pass_operands.ensures.swept;
      gained = chain_gained s _ (names_numbered s _ _ r) r.over k (knowledge_facts s.names.now c.pass_expression.new.known) _ (expression_of s.script.now c.args.first.now) (operands_from s.script.now c.args.rest.now) c.in_ok-pass_expression.ensures.gained c.in_ok-pass_operands.ensures.gained;
    }

pub pass_operands-loop-place-init : goal.words::pass_operands-loop-place-init
pass_operands-loop-place-init t c =
    let s = c.args.subject.now in
    let r = c.requires.ready in
    record { swept = swept_none s _ _ r; placed = c.requires.placed; along = λ q w. along_first s q _ _ w }

pub pass_operands-pass_expression-requires : goal.words::pass_operands-pass_expression-requires
pass_operands-pass_expression-requires t c =
    let s = c.args.subject.now in
    let r = c.requires.ready in
    let k = knowledge_facts s.names.now c.loop-place.known in
    let next = c.place_of_text-next.result in
    let left = operands_left s _ (names_numbered s _ _ r) r.over c.loop-place.known c.is_reached-is_known.result (operands_gains (operands_from s.script.now c.args.rest.now)) (knowledge_facts s.names.now c.args.known.now) c.args.rest.now c.loop-place.place next (c.is_reached-is_known.ensures s.names.now) c.place_of_text-next.ensures.from c.place_of_text-next.ensures.known (c.loop-place.invariant.placed, c.loop-place.invariant.along) in
    let at = at_index c.args.rest.now next c.index-rest-next.result (found_below next (length c.args.rest.now) c.place_of_text-next.ensures.there c.if-next-rest.false) c.index-rest-next.is in
    let here : IsIn s (λ q. entries.operands_entered q (operands_from s.script.now (c.index-rest-next.result ∷ drop (next + 1) c.args.rest.now))) k = subst (λ xs. IsIn s (λ q. entries.operands_entered q (operands_from s.script.now xs)) k) at left.0 in
    let ready : IsReady s c.loop-place.draft.certificate c.loop-place.draft.probe.count = ready_again s _ _ _ _ r c.loop-place.invariant.swept in
    let placed : IsIn s (λ q. entries.expression_entered q (expression_of s.script.now c.index-rest-next.result.1)) k = link_expression s k c.index-rest-next.result _ here in
    search std_rules

pub pass_operands-loop-place-preserved : goal.words::pass_operands-loop-place-preserved
pass_operands-loop-place-preserved t c =
    let s = c.args.subject.now in
    let r = c.requires.ready in
    let k = knowledge_facts s.names.now c.loop-place.known in
    let next = c.place_of_text-next.result in
    let left = operands_left s _ (names_numbered s _ _ r) r.over c.loop-place.known c.is_reached-is_known.result (operands_gains (operands_from s.script.now c.args.rest.now)) (knowledge_facts s.names.now c.args.known.now) c.args.rest.now c.loop-place.place next (c.is_reached-is_known.ensures s.names.now) c.place_of_text-next.ensures.from c.place_of_text-next.ensures.known (c.loop-place.invariant.placed, c.loop-place.invariant.along) in
    let at = at_index c.args.rest.now next c.index-rest-next.result (found_below next (length c.args.rest.now) c.place_of_text-next.ensures.there c.if-next-rest.false) c.index-rest-next.is in
    let here : IsIn s (λ q. entries.operands_entered q (operands_from s.script.now (c.index-rest-next.result ∷ drop (next + 1) c.args.rest.now))) k = subst (λ xs. IsIn s (λ q. entries.operands_entered q (operands_from s.script.now xs)) k) at left.0 in
    record {
      swept = swept_more s _ _ _ _ _ c.loop-place.invariant.swept c.in_ok-pass_expression.ensures.swept;
      placed = operands_next s k (knowledge_facts s.names.now c.pass_expression.new.known) c.index-rest-next.result _ c.in_ok-pass_expression.ensures.gained here;
      along = λ q w. along_operands s _ (names_numbered s _ _ r) r.over q k _ _ c.index-rest-next.result _ c.in_ok-pass_expression.ensures.gained
          (subst (λ xs. Along s q k (operands_gains (operands_from s.script.now c.args.rest.now)) (operands_gains (operands_from s.script.now xs))) at (left.1 q w));
    }

pub pass_operands-returns-then-next-rest-clause-gained : goal.words::pass_operands-returns-then-next-rest-clause-gained
pass_operands-returns-then-next-rest-clause-gained t c =
    λ q w.
    let s = c.args.subject.now in
    let r = c.requires.ready in
    let k = knowledge_facts s.names.now c.loop-place.known in
    let next = c.place_of_text-next.result in
    let left = operands_left s _ (names_numbered s _ _ r) r.over c.loop-place.known c.is_reached-is_known.result (operands_gains (operands_from s.script.now c.args.rest.now)) (knowledge_facts s.names.now c.args.known.now) c.args.rest.now c.loop-place.place next (c.is_reached-is_known.ensures s.names.now) c.place_of_text-next.ensures.from c.place_of_text-next.ensures.known (c.loop-place.invariant.placed, c.loop-place.invariant.along) in
    let over : length c.args.rest.now ≤ next = omega (arith, c.if-next-rest.true) in
    along_no_operands s _ (names_numbered s _ _ r) r.over q _ _
    (subst (λ xs. Along s q k (operands_gains (operands_from s.script.now c.args.rest.now)) (operands_gains (operands_from s.script.now xs))) (drop_all next c.args.rest.now over) (left.1 q w))

pub pass_operands-returns-clause-gained : goal.words::pass_operands-returns-clause-gained
pass_operands-returns-clause-gained t c =
    λ q w.
    let s = c.args.subject.now in
    let r = c.requires.ready in
    along_no_operands s _ (names_numbered s _ _ r) r.over q _ _
    (subst (λ xs. Along s q (knowledge_facts s.names.now c.loop-place.known) (operands_gains (operands_from s.script.now c.args.rest.now)) (operands_gains (operands_from s.script.now xs))) (drop_all c.loop-place.place c.args.rest.now c.loop-place-test.false) (c.loop-place.invariant.along q w))

pub pass_choice-pass_expression-requires : goal.words::pass_choice-pass_expression-requires
pass_choice-pass_expression-requires t c =
    let s = c.args.subject.now in
    let r = c.requires.ready in
    let k = knowledge_facts s.names.now c.args.known.now in
    let placed : IsIn s (λ q. entries.expression_entered q (expression_of s.script.now c.args.condition.now)) k = choice_condition s k (expression_of s.script.now c.args.condition.now) (expression_of s.script.now c.args.yes.now) (expression_of s.script.now c.args.no.now) c.requires.placed in
    search std_rules

pub pass_choice-pass_expression-requires-2 : goal.words::pass_choice-pass_expression-requires-2
pass_choice-pass_expression-requires-2 t c =
    let s = c.args.subject.now in
    let r = c.requires.ready in
    let k = knowledge_facts s.names.now c.args.known.now in
    let ready : IsReady s c.pass_expression.new.draft.certificate c.pass_expression.new.draft.probe.count = ready_again s _ _ _ _ r c.in_ok-pass_expression.ensures.swept in
    let l = (knowledge_facts s.names.now c.pass_expression.new.known) in
    let placed : IsIn s (λ q. entries.expression_entered q (expression_of s.script.now c.args.yes.now)) l = choice_yes s k l (expression_of s.script.now c.args.condition.now) (expression_of s.script.now c.args.yes.now) (expression_of s.script.now c.args.no.now) c.in_ok-pass_expression.ensures.gained c.requires.placed in
    search std_rules

pub pass_choice-pass_expression-requires-3 : goal.words::pass_choice-pass_expression-requires-3
pass_choice-pass_expression-requires-3 t c =
    let s = c.args.subject.now in
    let r = c.requires.ready in
    let k = knowledge_facts s.names.now c.args.known.now in
    let l = (knowledge_facts s.names.now c.pass_expression.new.known) in
    let m = (knowledge_facts s.names.now c.pass_expression-2.new.known) in
    let ready : IsReady s c.pass_expression-2.new.draft.certificate c.pass_expression-2.new.draft.probe.count = ready_again s _ _ _ _ (ready_again s _ _ _ _ r c.in_ok-pass_expression.ensures.swept) c.in_ok-pass_expression-2.ensures.swept in
    let placed : IsIn s (λ q. entries.expression_entered q (expression_of s.script.now c.args.no.now)) m = choice_no s k l m (expression_of s.script.now c.args.condition.now) (expression_of s.script.now c.args.yes.now) (expression_of s.script.now c.args.no.now) c.in_ok-pass_expression.ensures.gained c.in_ok-pass_expression-2.ensures.gained c.requires.placed in
    search std_rules

pub pass_choice-returns : goal.words::pass_choice-returns
pass_choice-returns t c =
    let s = c.args.subject.now in
    let r = c.requires.ready in
    let k = knowledge_facts s.names.now c.args.known.now in
    record {
      swept = swept_more s _ _ _ _ _ (swept_more s _ _ _ _ _ c.in_ok-pass_expression.ensures.swept c.in_ok-pass_expression-2.ensures.swept) c.in_ok-pass_expression-3.ensures.swept;
      gained = choice_gained s _ (names_numbered s _ _ r) r.over k (knowledge_facts s.names.now c.pass_expression.new.known) (knowledge_facts s.names.now c.pass_expression-2.new.known) _ (expression_of s.script.now c.args.condition.now) (expression_of s.script.now c.args.yes.now) (expression_of s.script.now c.args.no.now) c.in_ok-pass_expression.ensures.gained c.in_ok-pass_expression-2.ensures.gained c.in_ok-pass_expression-3.ensures.gained;
    }

pub sweep_element-returns-in-Assignment-clause-passed : goal.words::sweep_element-returns-in-Assignment-clause-passed
sweep_element-returns-in-Assignment-clause-passed t c =
    let s = c.args.subject.now in
    let r = c.requires.ready in
    let k = knowledge_facts s.names.now c.args.known.now in
    let b = knowledge_facts s.names.now c.args.behind.now in
    if_ok c.sweep_word.result _ _ (λ u h others here. value_next s k b _ _ _ (element_as s k b c.args.element.now _ others _ c.in-Assignment.is (program.elements_from-Assignment s.script.now c.in-Assignment.name c.in-Assignment.value others) here)) c.sweep_word.ensures.swept

pub sweep_element-returns-in-Word-clause-passed : goal.words::sweep_element-returns-in-Word-clause-passed
sweep_element-returns-in-Word-clause-passed t c =
    let s = c.args.subject.now in
    let r = c.requires.ready in
    let k = knowledge_facts s.names.now c.args.known.now in
    let b = knowledge_facts s.names.now c.args.behind.now in
    if_ok c.pass_word.result _ _ (λ u h others here. operand_next s k (knowledge_facts s.names.now c.pass_word.new.known) b _ _ h (element_as s k b c.args.element.now _ others _ c.in-Word.is (program.elements_from-Word s.script.now c.in-Word.word others) here)) c.pass_word.ensures.gained

pub sweep_element-returns-in-Redirection-clause-passed : goal.words::sweep_element-returns-in-Redirection-clause-passed
sweep_element-returns-in-Redirection-clause-passed t c =
    let s = c.args.subject.now in
    let r = c.requires.ready in
    let k = knowledge_facts s.names.now c.args.known.now in
    let b = knowledge_facts s.names.now c.args.behind.now in
    if_ok c.sweep_target.result _ _ (λ u h others here. redirection_next s k b _ _ (element_as s k b c.args.element.now _ others _ c.in-Redirection.is (program.elements_from-Redirection s.script.now c.in-Redirection.redirect others) here)) c.sweep_target.ensures.swept

pub pass_target-returns-in-File-clause-gained : goal.words::pass_target-returns-in-File-clause-gained
pass_target-returns-in-File-clause-gained t c =
    let s = c.args.subject.now in
    let r = c.requires.ready in
    let k = knowledge_facts s.names.now c.args.known.now in
    if_ok c.pass_word.result _ _ (λ u h. subst (λ x. Gained s (redirect_gains x) k (knowledge_facts s.names.now c.pass_word.new.known)) (sym (ap (target_of s.script.now) c.in-File.is ∙ program.target_of-File s.script.now _ c.in-File.word)) (file_gained s k _ _ h)) c.pass_word.ensures.gained

pub pass_target-returns-in-Here-clause-gained : goal.words::pass_target-returns-in-Here-clause-gained
pass_target-returns-in-Here-clause-gained t c =
    let s = c.args.subject.now in
    let r = c.requires.ready in
    let k = knowledge_facts s.names.now c.args.known.now in
    if_ok c.pass_word-in-Here.result _ _ (λ u h. subst (λ x. Gained s (redirect_gains x) k (knowledge_facts s.names.now c.pass_word-in-Here.new.known)) (sym (ap (target_of s.script.now) c.in-Here.is ∙ program.target_of-Here s.script.now c.in-Here.here)) (here_gained s k _ _ h)) c.pass_word-in-Here.ensures.gained

pub pass_target-pass_word-requires-in-Here : goal.words::pass_target-pass_word-requires-in-Here
pass_target-pass_word-requires-in-Here t c =
    let s = c.args.subject.now in
    let r = c.requires.ready in
    let k = knowledge_facts s.names.now c.args.known.now in
    let placed : IsWord s k (parts_from s.script.now c.in-Here.here.body.parts) = here_placed s k _ (subst (λ x. IsIn s (λ q. entries.redirect_entered q x) k) (ap (target_of s.script.now) c.in-Here.is ∙ program.target_of-Here s.script.now c.in-Here.here) c.requires.placed) in
    search std_rules

pub open_part-returns-in-Command-clause-gained : goal.words::open_part-returns-in-Command-clause-gained
unfolding part_gains
open_part-returns-in-Command-clause-gained t c =
    let s = c.args.subject.now in
    let r = c.requires.ready in
    let k = knowledge_facts s.names.now c.args.known.now in
    if_ok c.sweep_substitution.result _ _ (λ u h. plain_gained s _ (names_numbered s _ _ r) r.over k c.args.part.now _ _ c.in-Command.is (program.part_of-Command s.script.now _ _ c.in-Command.list) refl) c.sweep_substitution.ensures.swept

pub open_part-returns-in-Double-clause-gained : goal.words::open_part-returns-in-Double-clause-gained
open_part-returns-in-Double-clause-gained t c =
    let s = c.args.subject.now in
    let r = c.requires.ready in
    let k = knowledge_facts s.names.now c.args.known.now in
    let l = (knowledge_facts s.names.now c.pass_parts.new.known) in
    if_ok c.pass_parts.result _ _ (λ u h. part_gained s k l c.args.part.now _ _ c.in-Double.is (program.part_of-Double s.script.now _ c.in-Double.parts) (double_gained s k l _ (subst (λ ps. Gained s (word_gains (parts_from s.script.now ps)) k l) c.as_slice.ensures h))) c.pass_parts.ensures.gained

pub open_part-returns-in-Param-clause-gained : goal.words::open_part-returns-in-Param-clause-gained
open_part-returns-in-Param-clause-gained t c =
    let s = c.args.subject.now in
    let r = c.requires.ready in
    let k = knowledge_facts s.names.now c.args.known.now in
    let l = (knowledge_facts s.names.now c.pass_operator.new.known) in
    if_ok c.pass_operator.result _ _ (λ u h. part_gained s k l c.args.part.now _ _ c.in-Param.is (program.part_of-Param s.script.now c.in-Param.param) (expansion_gained s k l _ _ _ h)) c.pass_operator.ensures.gained

pub open_part-returns-in-Arith-clause-gained : goal.words::open_part-returns-in-Arith-clause-gained
open_part-returns-in-Arith-clause-gained t c =
    let s = c.args.subject.now in
    let r = c.requires.ready in
    let k = knowledge_facts s.names.now c.args.known.now in
    let l = (knowledge_facts s.names.now c.pass_arithmetic.new.known) in
    if_ok c.pass_arithmetic.result _ _ (λ u h. part_gained s k l c.args.part.now _ _ c.in-Arith.is (program.part_of-Arith s.script.now _ c.in-Arith.expression) (arithmetic_gained s k l _ _ (subst (λ x. Gained s (and_gains (expanded_gains (expression_of s.script.now x)) (named (assigned_in (expression_of s.script.now x)))) k l) c.get.ensures h))) c.pass_arithmetic.ensures.gained

pub pass_operator-returns-in-Remove-clause-gained : goal.words::pass_operator-returns-in-Remove-clause-gained
unfolding operator_gains
pass_operator-returns-in-Remove-clause-gained t c =
    let s = c.args.subject.now in
    let r = c.requires.ready in
    let k = knowledge_facts s.names.now c.args.known.now in
    if_ok c.sweep_word.result _ _ (λ u h. subst (λ x. Gained s (operator_gains (parameter_of s.script.now c.args.parameter) x) k k) (sym (ap (operator_of s.script.now) c.in-Remove.is ∙ program.operator_of-Remove s.script.now _ c.in-Remove.pattern)) (nothing_gained s _ (names_numbered s _ _ r) r.over k _ refl)) c.sweep_word.ensures.swept

pub pass_operator-returns-in-Use-clause-gained : goal.words::pass_operator-returns-in-Use-clause-gained
pass_operator-returns-in-Use-clause-gained t c =
    let s = c.args.subject.now in
    let r = c.requires.ready in
    let k = knowledge_facts s.names.now c.args.known.now in
    let l = (knowledge_facts s.names.now c.pass_action.new.known) in
    if_ok c.pass_action.result _ _ (λ u h. subst (λ x. Gained s (operator_gains (parameter_of s.script.now c.args.parameter) x) k l) (sym (ap (operator_of s.script.now) c.in-Use.is ∙ program.operator_of-Use s.script.now c.in-Use.action _ c.in-Use.word)) (use_gained s k l _ _ _ _ h)) c.pass_action.ensures.gained

pub open_expression-returns-in-Parenthesis-clause-gained : goal.words::open_expression-returns-in-Parenthesis-clause-gained
open_expression-returns-in-Parenthesis-clause-gained t c =
    let s = c.args.subject.now in
    let r = c.requires.ready in
    let k = knowledge_facts s.names.now c.args.known.now in
    let l = (knowledge_facts s.names.now c.pass_expression.new.known) in
    if_ok c.pass_expression.result _ _ (λ u h. expression_gained s k l c.args.expression.now _ _ c.in-Parenthesis.is (program.expression_of-Parenthesis s.script.now c.in-Parenthesis.inner) (parenthesis_gained s k l _ (subst (λ x. Gained s (expanded_gains (expression_of s.script.now x)) k l) c.get.ensures h))) c.pass_expression.ensures.gained

pub open_expression-returns-in-Unary-clause-gained : goal.words::open_expression-returns-in-Unary-clause-gained
open_expression-returns-in-Unary-clause-gained t c =
    let s = c.args.subject.now in
    let r = c.requires.ready in
    let k = knowledge_facts s.names.now c.args.known.now in
    let l = (knowledge_facts s.names.now c.pass_expression-in-Unary.new.known) in
    if_ok c.pass_expression-in-Unary.result _ _ (λ u h. expression_gained s k l c.args.expression.now _ _ c.in-Unary.is (program.expression_of-Unary s.script.now _ c.in-Unary.operand) (signed_gained s k l _ _ (subst (λ x. Gained s (expanded_gains (expression_of s.script.now x)) k l) c.get-in-Unary.ensures h))) c.pass_expression-in-Unary.ensures.gained

pub open_expression-pass_expression-requires-in-Unary : goal.words::open_expression-pass_expression-requires-in-Unary
open_expression-pass_expression-requires-in-Unary t c =
    let s = c.args.subject.now in
    let r = c.requires.ready in
    let k = knowledge_facts s.names.now c.args.known.now in
    let first = signed_placed s k _ _ (expression_as s k c.args.expression.now _ _ c.in-Unary.is (program.expression_of-Unary s.script.now _ c.in-Unary.operand) c.requires.placed) in
    let placed : IsIn s (λ q. entries.expression_entered q (expression_of s.script.now c.get-in-Unary.result.now)) k = subst (λ x. IsIn s (λ q. entries.expression_entered q (expression_of s.script.now x)) k) (sym c.get-in-Unary.ensures) first in
    search std_rules

pub open_expression-returns-in-Assign-clause-gained : goal.words::open_expression-returns-in-Assign-clause-gained
open_expression-returns-in-Assign-clause-gained t c =
    let s = c.args.subject.now in
    let r = c.requires.ready in
    let k = knowledge_facts s.names.now c.args.known.now in
    let l = (knowledge_facts s.names.now c.pass_expression-in-Assign.new.known) in
    if_ok c.pass_expression-in-Assign.result _ _ (λ u h. expression_gained s k l c.args.expression.now _ _ c.in-Assign.is (program.expression_of-Assign s.script.now _ _ c.in-Assign.value) (assigned_gained s k l _ _ _ _ (subst (λ x. Gained s (expanded_gains (expression_of s.script.now x)) k l) c.get-in-Assign.ensures h))) c.pass_expression-in-Assign.ensures.gained

pub open_expression-pass_expression-requires-in-Assign : goal.words::open_expression-pass_expression-requires-in-Assign
open_expression-pass_expression-requires-in-Assign t c =
    let s = c.args.subject.now in
    let r = c.requires.ready in
    let k = knowledge_facts s.names.now c.args.known.now in
    let first = assigned_placed s k _ _ _ _ (expression_as s k c.args.expression.now _ _ c.in-Assign.is (program.expression_of-Assign s.script.now _ _ c.in-Assign.value) c.requires.placed) in
    let placed : IsIn s (λ q. entries.expression_entered q (expression_of s.script.now c.get-in-Assign.result.now)) k = subst (λ x. IsIn s (λ q. entries.expression_entered q (expression_of s.script.now x)) k) (sym c.get-in-Assign.ensures) first in
    search std_rules

pub open_expression-returns-in-Expansion-clause-gained : goal.words::open_expression-returns-in-Expansion-clause-gained
open_expression-returns-in-Expansion-clause-gained t c =
    let s = c.args.subject.now in
    let r = c.requires.ready in
    let k = knowledge_facts s.names.now c.args.known.now in
    let l = (knowledge_facts s.names.now c.pass_part.new.known) in
    if_ok c.pass_part.result _ _ (λ u h. expression_gained s k l c.args.expression.now _ _ c.in-Expansion.is (program.expression_of-Expansion s.script.now c.in-Expansion.part) (expanded_gained s k l _ h)) c.pass_part.ensures.gained

pub open_expression-returns-in-Chain-clause-gained : goal.words::open_expression-returns-in-Chain-clause-gained
open_expression-returns-in-Chain-clause-gained t c =
    let s = c.args.subject.now in
    let r = c.requires.ready in
    let k = knowledge_facts s.names.now c.args.known.now in
    let l = (knowledge_facts s.names.now c.pass_chain.new.known) in
    if_ok c.pass_chain.result _ _ (λ u h. expression_gained s k l c.args.expression.now _ _ c.in-Chain.is (program.expression_of-Chain s.script.now c.in-Chain.first c.in-Chain.rest)
    (subst (λ x. Gained s (expanded_gains (p.Chain (expression_of s.script.now x) (operands_from s.script.now c.in-Chain.rest))) k l) c.get-in-Chain.ensures
    (subst (λ xs. Gained s (expanded_gains (p.Chain (expression_of s.script.now c.get-in-Chain.result.now) (operands_from s.script.now xs))) k l) c.as_slice.ensures h))) c.pass_chain.ensures.gained

pub open_expression-returns-in-Choice-clause-gained : goal.words::open_expression-returns-in-Choice-clause-gained
open_expression-returns-in-Choice-clause-gained t c =
    let s = c.args.subject.now in
    let r = c.requires.ready in
    let k = knowledge_facts s.names.now c.args.known.now in
    let l = (knowledge_facts s.names.now c.pass_choice.new.known) in
    if_ok c.pass_choice.result _ _ (λ u h. expression_gained s k l c.args.expression.now _ _ c.in-Choice.is (program.expression_of-Choice s.script.now c.in-Choice.condition c.in-Choice.yes c.in-Choice.no)
    (subst (λ x. Gained s (expanded_gains (p.Choice (expression_of s.script.now x) (expression_of s.script.now c.in-Choice.yes) (expression_of s.script.now c.in-Choice.no))) k l) c.get-in-Choice.ensures
    (subst (λ x. Gained s (expanded_gains (p.Choice (expression_of s.script.now c.get-in-Choice.result.now) (expression_of s.script.now x) (expression_of s.script.now c.in-Choice.no))) k l) c.get-in-Choice-2.ensures
    (subst (λ x. Gained s (expanded_gains (p.Choice (expression_of s.script.now c.get-in-Choice.result.now) (expression_of s.script.now c.get-in-Choice-2.result.now) (expression_of s.script.now x))) k l) c.get-in-Choice-3.ensures h)))) c.pass_choice.ensures.gained

pub pass_part-returns-then-levels-eq0-clause-gained : goal.words::pass_part-returns-then-levels-eq0-clause-gained
unfolding knowledge_facts
pass_part-returns-then-levels-eq0-clause-gained t c =
    let s = c.args.subject.now in
    gained_nowhere s (part_gains (part_of s.script.now c.args.part.now)) (knowledge_facts s.names.now c.args.known.now)

pub pass_expression-returns-then-levels-eq0-clause-gained : goal.words::pass_expression-returns-then-levels-eq0-clause-gained
unfolding knowledge_facts
pass_expression-returns-then-levels-eq0-clause-gained t c =
    let s = c.args.subject.now in
    gained_nowhere s (expanded_gains (expression_of s.script.now c.args.expression.now)) (knowledge_facts s.names.now c.args.known.now)
