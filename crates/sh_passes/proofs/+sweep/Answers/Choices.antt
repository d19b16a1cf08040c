use Rattle.std.proofs.Common.{rules as std_rules, ◌≡◌, ◌≤◌, ◌+◌, ◌∷◌, List, arith, true, drop, length, sym, subst}
use Rattle.std.proofs.lemmas.List.{drop_all, take_rest}
use Rattle.sh_tree.specs.declared.tree.Branch.{Branch, out-Branch}
use Rattle.sh_tree.specs.declared.tree.Clause.{Clause, out-Clause}
use Rattle.sh_tree.specs.Lists.{branches_from, clauses_from, otherwise_from, parts_from, words_from}
use Rattle.sh_tree.specs.standard.program.Syntax as p
use Rattle.sh_tree.specs.standard.program.Trees.{script_of}
use Rattle.sh_tree.proofs.ProgramRules as program
use Rattle.sh_domain.specs.declared.rule.FlowRule.TheVariants.{F6, F9}
use Rattle.sh_domain.specs.Entries as entries
use Rattle.sh_domain.specs.Facts.{NotReached, meet}
use Rattle.sh_domain.specs.Knowledge.{knowledge_facts}
use Rattle.sh_rules.specs.Behind.{both}
use Rattle.sh_rules.specs.Tells.{ends_case}
use Rattle.sh_rules.specs.Walks as walks
use Rattle.sh_rules.specs.Walks.{facts_in}
use Rattle.sh_sweeps.specs.Sweeps.{AreBranches, AreClauses, AreItems, IsCase, IsIn, IsLeft, IsWord, known_behind, setting_by}
use Rattle.sh_drafts.specs.Ready.{IsReady}
use Rattle.sh_sweeps.proofs.BeforeLemmas.{left_nonzero, left_zero, unmatched_zero}
use Rattle.sh_sweeps.proofs.PlacedLemmas.{at_index, begun_at, branch_body, branch_condition, branches_left, branches_next, clause_left, clause_list, clauses_left, clauses_next, clauses_placed, else_placed, found_below, known_after}
use Rattle.sh_drafts.proofs.ReadyLemmas.{names_numbered, ready_again, swept_more, swept_none}
use Rattle.sh_sweeps.proofs.WordLemmas.{case_as, case_word, clause_patterns, cond_as, if_ok}
use Rattle.sh_passes.proofs.+sweep.Goals as goal

pub sweep_conditional-sweep_cond-requires : goal.sweep::sweep_conditional-sweep_cond-requires
sweep_conditional-sweep_cond-requires t c =
    let s = c.args.subject.now in
    let r = c.requires.ready in
    let y = walks.around s.script.now c.args.around.now in
    let k = knowledge_facts s.names.now c.args.known.now in
    let bs = branches_from s.script.now c.in-Cond.branches in
    let z = otherwise_from s.script.now c.in-Cond.otherwise in
    let first = cond_as s y c.args.number k c.args.kind.now _ bs z c.in-Cond.is (program.kind_of-Cond s.script.now c.in-Cond.branches c.in-Cond.otherwise) c.requires.placed in
    let placed : AreBranches s y c.args.number k (branches_from s.script.now c.as_slice-branches.result.now) z =
    subst (λ cs. AreBranches s y c.args.number k (branches_from s.script.now cs) z) (sym c.as_slice-branches.ensures) first in
    search std_rules

pub sweep_conditional-sweep_case-requires : goal.sweep::sweep_conditional-sweep_case-requires
sweep_conditional-sweep_case-requires t c =
    let s = c.args.subject.now in
    let r = c.requires.ready in
    let y = walks.around s.script.now c.args.around.now in
    let k = knowledge_facts s.names.now c.args.known.now in
    let w = parts_from s.script.now c.in-Branches.word.parts in
    let first = case_as s y c.args.number k c.args.kind.now _ w (clauses_from s.script.now c.in-Branches.clauses) c.in-Branches.is (program.kind_of-Branches s.script.now c.in-Branches.word c.in-Branches.clauses) c.requires.placed in
    let placed : IsCase s y c.args.number k w (clauses_from s.script.now c.as_slice-clauses.result.now) =
    subst (λ cs. IsCase s y c.args.number k w (clauses_from s.script.now cs)) (sym c.as_slice-clauses.ensures) first in
    search std_rules

pub sweep_branch-sweep_items-requires : goal.choices::sweep_branch-sweep_items-requires
unfolding facts_in
sweep_branch-sweep_items-requires t c =
    let s = c.args.subject.now in
    let r = c.requires.ready in
    let y = walks.around s.script.now c.args.around.now in
    let k = knowledge_facts s.names.now c.args.known.now in
    let begun : known_behind s c.begun-course.result.behind ≡ both k = c.begun-course.ensures.behind (setting_by s c.args.draft.now.certificate) in
    let w = c.requires.placed in
    let placed : AreItems s c.begun-course.result.by y (known_behind s c.begun-course.result.behind) c.as_slice.result.now =
    begun_at s y k c.begun-course.result F6 (out-Branch c.args.branch.now).condition c.as_slice.result.now c.begun-course.ensures.by begun c.as_slice.ensures (branch_condition s y c.args.number k c.args.branch.now w.0 w.1 w.2) in
    search std_rules

pub sweep_branch-sweep_left-requires : goal.choices::sweep_branch-sweep_left-requires
unfolding facts_in
sweep_branch-sweep_left-requires t c =
    let s = c.args.subject.now in
    let r = c.requires.ready in
    let y = walks.around s.script.now c.args.around.now in
    let ready : IsReady s c.sweep_items.new.draft.certificate c.sweep_items.new.draft.probe.count = ready_again s _ _ _ _ r c.in_ok-sweep_items.ensures.swept in
    let k = knowledge_facts s.names.now c.args.known.now in
    let begun : known_behind s c.begun-course.result.behind ≡ both k = c.begun-course.ensures.behind (setting_by s c.args.draft.now.certificate) in
    let after = known_after s k c.begun-course.result c.sweep_items.new.course (out-Branch c.args.branch.now).condition c.as_slice.result.now begun c.as_slice.ensures c.in_ok-sweep_items.ensures.behind in
    let w = c.requires.placed in
    let placed : IsLeft s y c.args.number F6 (knowledge_facts s.names.now c.sweep_items.new.course.behind.zero) (script_of s.script.now (out-Branch c.args.branch.now).body) =
    branch_body s y c.args.number k _ c.args.branch.now w.0 w.1 (λ q w other keeps. (after q w other keeps).zero) w.2 in
    search std_rules

pub sweep_branch-returns-clause-swept : goal.choices::sweep_branch-returns-clause-swept
sweep_branch-returns-clause-swept t c =
    swept_more c.args.subject.now _ _ _ _ _ c.in_ok-sweep_items.ensures.swept c.in_ok-sweep_left.ensures.swept

pub sweep_branch-returns-clause-passed : goal.choices::sweep_branch-returns-clause-passed
unfolding facts_in
sweep_branch-returns-clause-passed t c =
    λ others z here.
    let s = c.args.subject.now in
    let y = walks.around s.script.now c.args.around.now in
    let k = knowledge_facts s.names.now c.args.known.now in
    let begun : known_behind s c.begun-course.result.behind ≡ both k = c.begun-course.ensures.behind (setting_by s c.args.draft.now.certificate) in
    let after = known_after s k c.begun-course.result c.sweep_items.new.course (out-Branch c.args.branch.now).condition c.as_slice.result.now begun c.as_slice.ensures c.in_ok-sweep_items.ensures.behind in
    branches_next s y c.args.number k _ c.args.branch.now others z (λ q w other keeps. (after q w other keeps).nonzero) here

pub sweep_branches-sweep_branch-requires : goal.choices::sweep_branches-sweep_branch-requires
sweep_branches-sweep_branch-requires t c =
    let s = c.args.subject.now in
    let y = walks.around s.script.now c.args.around.now in
    let k = knowledge_facts s.names.now c.loop-place.known in
    let next = c.place_of_news-next.result in
    let left = branches_left s y c.args.number c.loop-place.known c.is_reached-is_known.result c.args.branches.now (otherwise_from s.script.now c.args.otherwise.now) c.loop-place.place next (c.is_reached-is_known.ensures s.names.now) c.place_of_news-next.ensures.from c.place_of_news-next.ensures.known c.loop-place.invariant.placed in
    let here : AreBranches s y c.args.number k (branches_from s.script.now (c.index-branches-next.result ∷ drop (next + 1) c.args.branches.now)) (otherwise_from s.script.now c.args.otherwise.now) =
    subst (λ bs. AreBranches s y c.args.number k (branches_from s.script.now bs) (otherwise_from s.script.now c.args.otherwise.now))
    (at_index c.args.branches.now next c.index-branches-next.result (found_below next (length c.args.branches.now) c.place_of_news-next.ensures.there c.if-next-branches.false) c.index-branches-next.is) left in
    let ready : IsReady s c.loop-place.draft.certificate c.loop-place.draft.probe.count = ready_again s _ _ _ _ c.requires.ready c.loop-place.invariant.swept in
    let placed : (others : List Branch) × (z : p.Otherwise) × AreBranches s y c.args.number k (branches_from s.script.now (c.index-branches-next.result ∷ others)) z = (_, _, here) in
    search std_rules

pub sweep_branches-loop-place-preserved : goal.choices::sweep_branches-loop-place-preserved
sweep_branches-loop-place-preserved t c =
    let s = c.args.subject.now in
    let y = walks.around s.script.now c.args.around.now in
    let k = knowledge_facts s.names.now c.loop-place.known in
    let next = c.place_of_news-next.result in
    let left = branches_left s y c.args.number c.loop-place.known c.is_reached-is_known.result c.args.branches.now (otherwise_from s.script.now c.args.otherwise.now) c.loop-place.place next (c.is_reached-is_known.ensures s.names.now) c.place_of_news-next.ensures.from c.place_of_news-next.ensures.known c.loop-place.invariant.placed in
    let here : AreBranches s y c.args.number k (branches_from s.script.now (c.index-branches-next.result ∷ drop (next + 1) c.args.branches.now)) (otherwise_from s.script.now c.args.otherwise.now) =
    subst (λ bs. AreBranches s y c.args.number k (branches_from s.script.now bs) (otherwise_from s.script.now c.args.otherwise.now))
    (at_index c.args.branches.now next c.index-branches-next.result (found_below next (length c.args.branches.now) c.place_of_news-next.ensures.there c.if-next-branches.false) c.index-branches-next.is) left in
    record { swept = swept_more s _ _ _ _ _ c.loop-place.invariant.swept c.in_ok-sweep_branch.ensures.swept; placed = c.in_ok-sweep_branch.ensures.passed _ _ here }

pub sweep_branches-returns-then-next-branches-clause-left : goal.choices::sweep_branches-returns-then-next-branches-clause-left
sweep_branches-returns-then-next-branches-clause-left t c =
    let s = c.args.subject.now in
    let y = walks.around s.script.now c.args.around.now in
    let next = c.place_of_news-next.result in
    let left = branches_left s y c.args.number c.loop-place.known c.is_reached-is_known.result c.args.branches.now (otherwise_from s.script.now c.args.otherwise.now) c.loop-place.place next (c.is_reached-is_known.ensures s.names.now) c.place_of_news-next.ensures.from c.place_of_news-next.ensures.known c.loop-place.invariant.placed in
    let over : length c.args.branches.now ≤ next = omega (arith, c.if-next-branches.true) in
    subst (λ bs. AreBranches s y c.args.number (knowledge_facts s.names.now c.loop-place.known) (branches_from s.script.now bs) (otherwise_from s.script.now c.args.otherwise.now)) (drop_all next c.args.branches.now over) left

pub sweep_branches-returns-clause-left : goal.choices::sweep_branches-returns-clause-left
sweep_branches-returns-clause-left t c =
    let s = c.args.subject.now in
    let y = walks.around s.script.now c.args.around.now in
    subst (λ bs. AreBranches s y c.args.number (knowledge_facts s.names.now c.loop-place.known) (branches_from s.script.now bs) (otherwise_from s.script.now c.args.otherwise.now)) (drop_all c.loop-place.place c.args.branches.now c.loop-place-test.false) c.loop-place.invariant.placed

pub sweep_clauses-loop-place-init : goal.choices::sweep_clauses-loop-place-init
unfolding knowledge_facts
sweep_clauses-loop-place-init t c =
    let s = c.args.subject.now in
    let r = c.requires.ready in
    record { swept = swept_none s _ _ r; placed = c.requires.placed }

pub sweep_clauses-sweep_clause-requires : goal.choices::sweep_clauses-sweep_clause-requires
sweep_clauses-sweep_clause-requires t c =
    let s = c.args.subject.now in
    let y = walks.around s.script.now c.args.around.now in
    let k = knowledge_facts s.names.now c.args.behind.now in
    let f = knowledge_facts s.names.now c.loop-place.fallen in
    let next = c.place_of_news-next.result in
    let left = clauses_left s y c.args.number k f c.is_any_known-is_known.result c.args.clauses.now c.loop-place.place next (λ none. c.is_any_known-is_known.ensures none s.names.now) c.place_of_news-next.ensures.from c.place_of_news-next.ensures.known c.loop-place.invariant.placed in
    let here : AreClauses s y c.args.number k f (clauses_from s.script.now (c.index-clauses-next.result ∷ drop (next + 1) c.args.clauses.now)) =
    subst (λ cs. AreClauses s y c.args.number k f (clauses_from s.script.now cs))
    (at_index c.args.clauses.now next c.index-clauses-next.result (found_below next (length c.args.clauses.now) c.place_of_news-next.ensures.there c.if-next-clauses.false) c.index-clauses-next.is) left in
    let ready : IsReady s c.loop-place.draft.certificate c.loop-place.draft.probe.count = ready_again s _ _ _ _ c.requires.ready c.loop-place.invariant.swept in
    let placed : (others : List Clause) × AreClauses s y c.args.number k f (clauses_from s.script.now (c.index-clauses-next.result ∷ others))
    × (c.leaves_case-leaves.result ≡ true → ends_case s.script.now (out-Clause c.index-clauses-next.result).end others ≡ true) =
    (_, here, λ on. subst (λ cs. ends_case s.script.now (out-Clause c.index-clauses-next.result).end cs ≡ true) (take_rest c.args.clauses.now (next + 1)) (c.leaves_case-leaves.ensures s.script.now on)) in
    search std_rules

pub sweep_clauses-loop-place-preserved : goal.choices::sweep_clauses-loop-place-preserved
sweep_clauses-loop-place-preserved t c =
    let s = c.args.subject.now in
    let y = walks.around s.script.now c.args.around.now in
    let k = knowledge_facts s.names.now c.args.behind.now in
    let f = knowledge_facts s.names.now c.loop-place.fallen in
    let next = c.place_of_news-next.result in
    let left = clauses_left s y c.args.number k f c.is_any_known-is_known.result c.args.clauses.now c.loop-place.place next (λ none. c.is_any_known-is_known.ensures none s.names.now) c.place_of_news-next.ensures.from c.place_of_news-next.ensures.known c.loop-place.invariant.placed in
    let here : AreClauses s y c.args.number k f (clauses_from s.script.now (c.index-clauses-next.result ∷ drop (next + 1) c.args.clauses.now)) =
    subst (λ cs. AreClauses s y c.args.number k f (clauses_from s.script.now cs))
    (at_index c.args.clauses.now next c.index-clauses-next.result (found_below next (length c.args.clauses.now) c.place_of_news-next.ensures.there c.if-next-clauses.false) c.index-clauses-next.is) left in
    record { swept = swept_more s _ _ _ _ _ c.loop-place.invariant.swept c.in_ok-sweep_clause.ensures.swept; placed = c.in_ok-sweep_clause.ensures.passed _ here }

pub sweep_body-sweep_items-requires : goal.choices::sweep_body-sweep_items-requires
unfolding facts_in
sweep_body-sweep_items-requires t c =
    let s = c.args.subject.now in
    let r = c.requires.ready in
    let y = walks.around s.script.now c.args.around.now in
    let k = knowledge_facts s.names.now c.args.behind.now in
    let old = knowledge_facts s.names.now c.args.fallen.now in
    let known = knowledge_facts s.names.now c.meet.new.known in
    let same : known ≡ meet k old = c.meet.ensures (setting_by s c.args.draft.now.certificate) in
    let begun : known_behind s c.begun-course.result.behind ≡ both known = c.begun-course.ensures.behind (setting_by s c.args.draft.now.certificate) in
    let placed : AreItems s c.begun-course.result.by y (known_behind s c.begun-course.result.behind) c.as_slice.result.now =
    begun_at s y known c.begun-course.result F9 (out-Clause c.args.clause.now).body c.as_slice.result.now c.begun-course.ensures.by begun c.as_slice.ensures
    (clause_list s y c.args.number k old known c.args.clause.now c.requires.placed.0 same _ (names_numbered s _ _ r) r.over c.requires.placed.1) in
    search std_rules

pub sweep_body-leave-requires-clause-ready : goal.choices::sweep_body-leave-requires-clause-ready
sweep_body-leave-requires-clause-ready t c = ready_again c.args.subject.now _ _ _ _ c.requires.ready c.in_ok-sweep_items.ensures.swept

pub sweep_body-leave-requires-clause-zero : goal.choices::sweep_body-leave-requires-clause-zero
unfolding facts_in ends_case
sweep_body-leave-requires-clause-zero t c = λ leaves.
    let s = c.args.subject.now in
    let r = c.requires.ready in
    let y = walks.around s.script.now c.args.around.now in
    let k = knowledge_facts s.names.now c.args.behind.now in
    let old = knowledge_facts s.names.now c.args.fallen.now in
    let known = knowledge_facts s.names.now c.meet.new.known in
    let w = c.requires.placed in
    let same : known ≡ meet k old = c.meet.ensures (setting_by s c.args.draft.now.certificate) in
    let begun : known_behind s c.begun-course.result.behind ≡ both known = c.begun-course.ensures.behind (setting_by s c.args.draft.now.certificate) in
    let after = known_after s known c.begun-course.result c.sweep_items.new.course (out-Clause c.args.clause.now).body c.as_slice.result.now begun c.as_slice.ensures c.in_ok-sweep_items.ensures.behind in
    let left = clause_left s y c.args.number k old known c.args.clause.now w.0 same _ (names_numbered s _ _ r) r.over w.1 (w.2 leaves) in
    left_zero s r.admitted y c.args.number F9 known (script_of s.script.now (out-Clause c.args.clause.now).body) left (known_behind s c.sweep_items.new.course.behind) after

pub sweep_body-leave-requires-clause-nonzero : goal.choices::sweep_body-leave-requires-clause-nonzero
unfolding facts_in ends_case
sweep_body-leave-requires-clause-nonzero t c = λ leaves.
    let s = c.args.subject.now in
    let r = c.requires.ready in
    let y = walks.around s.script.now c.args.around.now in
    let k = knowledge_facts s.names.now c.args.behind.now in
    let old = knowledge_facts s.names.now c.args.fallen.now in
    let known = knowledge_facts s.names.now c.meet.new.known in
    let w = c.requires.placed in
    let same : known ≡ meet k old = c.meet.ensures (setting_by s c.args.draft.now.certificate) in
    let begun : known_behind s c.begun-course.result.behind ≡ both known = c.begun-course.ensures.behind (setting_by s c.args.draft.now.certificate) in
    let after = known_after s known c.begun-course.result c.sweep_items.new.course (out-Clause c.args.clause.now).body c.as_slice.result.now begun c.as_slice.ensures c.in_ok-sweep_items.ensures.behind in
    let left = clause_left s y c.args.number k old known c.args.clause.now w.0 same _ (names_numbered s _ _ r) r.over w.1 (w.2 leaves) in
    left_nonzero s r.admitted y c.args.number F9 known (script_of s.script.now (out-Clause c.args.clause.now).body) left (known_behind s c.sweep_items.new.course.behind) after

pub sweep_body-returns-clause-swept : goal.choices::sweep_body-returns-clause-swept
sweep_body-returns-clause-swept t c = swept_more c.args.subject.now _ _ _ _ _ c.in_ok-sweep_items.ensures.swept c.in_ok-leave.ensures.swept

pub sweep_body-returns-clause-passed : goal.choices::sweep_body-returns-clause-passed
unfolding facts_in
sweep_body-returns-clause-passed t c =
    λ others here.
    let s = c.args.subject.now in
    let r = c.requires.ready in
    let y = walks.around s.script.now c.args.around.now in
    let k = knowledge_facts s.names.now c.args.behind.now in
    let old = knowledge_facts s.names.now c.args.fallen.now in
    let known = knowledge_facts s.names.now c.meet.new.known in
    let same : known ≡ meet k old = c.meet.ensures (setting_by s c.args.draft.now.certificate) in
    let begun : known_behind s c.begun-course.result.behind ≡ both known = c.begun-course.ensures.behind (setting_by s c.args.draft.now.certificate) in
    let after = known_after s known c.begun-course.result c.sweep_items.new.course (out-Clause c.args.clause.now).body c.as_slice.result.now begun c.as_slice.ensures c.in_ok-sweep_items.ensures.behind in
    clauses_next s y c.args.number k old known (known_behind s c.sweep_items.new.course.behind) _ c.args.clause.now others same (c.falling.ensures (setting_by s c.args.draft.now.certificate)) after _ (names_numbered s _ _ r) c.in_ok-sweep_items.ensures.swept.over here

pub sweep_cond-sweep_left-requires : goal.choices::sweep_cond-sweep_left-requires
sweep_cond-sweep_left-requires t c =
    let s = c.args.subject.now in
    let r = c.requires.ready in
    let y = walks.around s.script.now c.args.around.now in
    let ready : IsReady s c.sweep_branches.new.draft.certificate c.sweep_branches.new.draft.probe.count = ready_again s _ _ _ _ r c.in_ok-sweep_branches.ensures.swept in
    let placed : IsLeft s y c.args.number F6 (knowledge_facts s.names.now c.sweep_branches.new.known) (script_of s.script.now c.in-Some.list) =
    else_placed s y c.args.number (knowledge_facts s.names.now c.sweep_branches.new.known) c.args.otherwise.now c.in-Some.list c.in-Some.is c.in_ok-sweep_branches.ensures.left in
    search std_rules

pub sweep_case-pass_word-requires : goal.choices::sweep_case-pass_word-requires
sweep_case-pass_word-requires t c =
    let s = c.args.subject.now in
    let r = c.requires.ready in
    let y = walks.around s.script.now c.args.around.now in
    let k = knowledge_facts s.names.now c.args.known.now in
    let placed : IsWord s k (parts_from s.script.now c.args.word.now.parts) = case_word s y c.args.number k (parts_from s.script.now c.args.word.now.parts) (clauses_from s.script.now c.args.clauses.now) c.requires.placed in
    search std_rules

pub sweep_case-sweep_clauses-requires : goal.choices::sweep_case-sweep_clauses-requires
sweep_case-sweep_clauses-requires t c =
    let s = c.args.subject.now in
    let r = c.requires.ready in
    let y = walks.around s.script.now c.args.around.now in
    let k = knowledge_facts s.names.now c.args.known.now in
    let ready : IsReady s c.pass_word.new.draft.certificate c.pass_word.new.draft.probe.count = ready_again s _ _ _ _ r c.in_ok-pass_word.ensures.swept in
    let placed : AreClauses s y c.args.number (knowledge_facts s.names.now c.pass_word.new.known) NotReached (clauses_from s.script.now c.args.clauses.now) =
    clauses_placed s y c.args.number k (knowledge_facts s.names.now c.pass_word.new.known) (parts_from s.script.now c.args.word.now.parts) (clauses_from s.script.now c.args.clauses.now)
    c.in_ok-pass_word.ensures.gained c.requires.placed _ (names_numbered s _ _ r) r.over in
    search std_rules

pub sweep_clause-sweep_patterns-requires : goal.choices::sweep_clause-sweep_patterns-requires
sweep_clause-sweep_patterns-requires t c =
    let s = c.args.subject.now in
    let r = c.requires.ready in
    let y = walks.around s.script.now c.args.around.now in
    let k = knowledge_facts s.names.now c.args.behind.now in
    let w = c.requires.placed in
    let first = clause_patterns s y c.args.number k (knowledge_facts s.names.now c.args.fallen.now) c.args.clause.now w.0 w.1 in
    let placed : IsIn s (λ q. entries.patterns_entered q (words_from s.script.now c.as_slice.result.now)) k =
    subst (λ ws. IsIn s (λ q. entries.patterns_entered q (words_from s.script.now ws)) k) (sym c.as_slice.ensures) first in
    search std_rules

pub sweep_clause-returns-clause-swept : goal.choices::sweep_clause-returns-clause-swept
sweep_clause-returns-clause-swept t c = if_ok c.sweep_body.result _ _ (λ u h. swept_more c.args.subject.now _ _ _ _ _ c.in_ok-sweep_patterns.ensures.swept h) c.sweep_body.ensures.swept

pub sweep_cond-returns-in-Some : goal.choices::sweep_cond-returns-in-Some
sweep_cond-returns-in-Some t c = record { swept = if_ok c.sweep_left.result _ _ (λ u h. swept_more c.args.subject.now _ _ _ _ _ c.in_ok-sweep_branches.ensures.swept h) c.sweep_left.ensures.swept }

pub sweep_cond-returns-in-None : goal.choices::sweep_cond-returns-in-None
sweep_cond-returns-in-None t c = record { swept = if_ok c.leave_unmatched.result _ _ (λ u h. swept_more c.args.subject.now _ _ _ _ _ c.in_ok-sweep_branches.ensures.swept h) c.leave_unmatched.ensures.swept }

pub sweep_cond-leave_unmatched-requires-clause-ready : goal.choices::sweep_cond-leave_unmatched-requires-clause-ready
sweep_cond-leave_unmatched-requires-clause-ready t c = ready_again c.args.subject.now _ _ _ _ c.requires.ready c.in_ok-sweep_branches.ensures.swept

pub sweep_cond-leave_unmatched-requires-clause-zero : goal.choices::sweep_cond-leave_unmatched-requires-clause-zero
sweep_cond-leave_unmatched-requires-clause-zero t c =
    let s = c.args.subject.now in
    let y = walks.around s.script.now c.args.around.now in
    unmatched_zero s c.requires.ready.admitted y c.args.number (knowledge_facts s.names.now c.sweep_branches.new.known) c.args.otherwise.now c.in-None.is c.in_ok-sweep_branches.ensures.left

-- A list of an `if`

pub sweep_left-sweep_items-requires : goal.choices::sweep_left-sweep_items-requires
unfolding facts_in
sweep_left-sweep_items-requires t c =
    let s = c.args.subject.now in
    let r = c.requires.ready in
    let y = walks.around s.script.now c.args.around.now in
    let k = knowledge_facts s.names.now c.args.known.now in
    let begun : known_behind s c.begun-course.result.behind ≡ both k = c.begun-course.ensures.behind (setting_by s c.args.draft.now.certificate) in
    let placed : AreItems s c.begun-course.result.by y (known_behind s c.begun-course.result.behind) c.as_slice-items.result.now =
    begun_at s y k c.begun-course.result F6 c.args.list.now c.as_slice-items.result.now c.begun-course.ensures.by begun c.as_slice-items.ensures c.requires.placed.inside in
    search std_rules

pub sweep_left-leave-requires-clause-ready : goal.choices::sweep_left-leave-requires-clause-ready
sweep_left-leave-requires-clause-ready t c = ready_again c.args.subject.now _ _ _ _ c.requires.ready c.in_ok-sweep_items.ensures.swept

pub sweep_left-leave-requires-clause-zero : goal.choices::sweep_left-leave-requires-clause-zero
unfolding facts_in
sweep_left-leave-requires-clause-zero t c = λ leaves.
    let s = c.args.subject.now in
    let r = c.requires.ready in
    let y = walks.around s.script.now c.args.around.now in
    let k = knowledge_facts s.names.now c.args.known.now in
    let begun : known_behind s c.begun-course.result.behind ≡ both k = c.begun-course.ensures.behind (setting_by s c.args.draft.now.certificate) in
    let after = known_after s k c.begun-course.result c.sweep_items.new.course c.args.list.now c.as_slice-items.result.now begun c.as_slice-items.ensures c.in_ok-sweep_items.ensures.behind in
    left_zero s r.admitted y c.args.number F6 k (script_of s.script.now c.args.list.now) c.requires.placed (known_behind s c.sweep_items.new.course.behind) after

pub sweep_left-leave-requires-clause-nonzero : goal.choices::sweep_left-leave-requires-clause-nonzero
unfolding facts_in
sweep_left-leave-requires-clause-nonzero t c = λ leaves.
    let s = c.args.subject.now in
    let r = c.requires.ready in
    let y = walks.around s.script.now c.args.around.now in
    let k = knowledge_facts s.names.now c.args.known.now in
    let begun : known_behind s c.begun-course.result.behind ≡ both k = c.begun-course.ensures.behind (setting_by s c.args.draft.now.certificate) in
    let after = known_after s k c.begun-course.result c.sweep_items.new.course c.args.list.now c.as_slice-items.result.now begun c.as_slice-items.ensures c.in_ok-sweep_items.ensures.behind in
    left_nonzero s r.admitted y c.args.number F6 k (script_of s.script.now c.args.list.now) c.requires.placed (known_behind s c.sweep_items.new.course.behind) after

pub sweep_left-returns : goal.choices::sweep_left-returns
sweep_left-returns t c = record { swept = if_ok c.leave.result _ _ (λ u h. swept_more c.args.subject.now _ _ _ _ _ c.in_ok-sweep_items.ensures.swept h) c.leave.ensures.swept }
