use Rattle.std.proofs.Common.{Some, None, IfOk, ◌≡◌, [], ◌∷◌, ◌+◌, drop, sym, ap, ◌∙◌, subst}
use Rattle.std.proofs.lemmas.List.{drop_all}
use Rattle.std.proofs.lemmas.Result.{IfOk-weaker}
use Rattle.sh_tree.specs.declared.tree.Clause.{out-Clause}
use Rattle.sh_tree.specs.Lists.{branches_from, clauses_from, for_words_from, otherwise_from, parts_from, words_from}
use Rattle.sh_tree.specs.standard.Tree.{text_of}
use Rattle.sh_tree.specs.standard.program.Syntax as p
use Rattle.sh_tree.specs.standard.program.Trees as trees
use Rattle.sh_tree.proofs.ProgramRules as rules
use Rattle.sh_domain.specs.declared.rule.FlowRule.TheVariants.{F6}
use Rattle.sh_domain.specs.Entries as entries
use Rattle.sh_domain.specs.Views as views
use Rattle.sh_domain.specs.Gains.{words_gains}
use Rattle.sh_domain.specs.Views.{Before, Head, at}
use Rattle.sh_tally.specs.Views.{index_of}
use Rattle.sh_rules.specs.Walks as walks
use Rattle.sh_tally.specs.Walks.{AddsBranches, AddsClauses, AddsFrom, AddsKind, AddsUnmatched, Passes, Sight, names}
use Rattle.sh_tally.proofs.IterationLemmas.{every_kind, listed_kind, turns_added}
use Rattle.sh_tally.proofs.KindLemmas.{BranchesLeft, ClausesLeft, PatternsLeft, all_falls, branches_added, branches_next, branches_seen, case_kind, clauses_added, clauses_begun, clauses_next, conditional_kind, else_added, ended_clause, fallen_clause, no_else_added, nothing_falls, otherwise_as, patterns_added, patterns_begun, patterns_next}
use Rattle.sh_tally.proofs.WalkLemmas.{group_kind, loop_kind, subshell_kind, at_index}
use Rattle.sh_tally.proofs.bounds.Tally.+tally.Goals as goal

pub group-returns : goal.group-returns
group-returns t c =
    let s = c.args.self.now in
    group_kind s (walks.around s.script.now c.args.around.now) c.args.number c.args.inside (trees.script_of s.script.now c.args.list.now) c.args.equations.now c.list.new.equations c.leaves.new.equations c.in_ok-after.after
    c.in_ok-after.ensures.adds c.in_ok-after.ensures.leaves c.in_ok-leaves.ensures

pub subshell-returns : goal.subshell-returns
unfolding index_of
subshell-returns t c =
    let s = c.args.self.now in
    let own = c.at-before.ensures (names s) (Before c.args.number) (ap Some (sym c.of.ensures)) in
    subshell_kind s (walks.around s.script.now c.args.around.now) c.args.number c.args.inside (trees.script_of s.script.now c.args.list.now) c.args.equations.now c.list.new.equations c.leaves.new.equations
    (walks.around s.script.now c.alone-outside.result) c.at-before.result c.both.result (c.alone-outside.ensures s.script.now) c.in_ok-list.ensures.adds own (c.both.ensures (names s) (at (Before c.args.number)) own) c.in_ok-leaves.ensures

pub turns-returns : goal.turns-returns
unfolding index_of
turns-returns t c =
    let s = c.args.self.now in
    let b = s.script.now in
    let y = walks.around b c.args.around.now in
    let own = c.at-head.ensures (names s) (Head c.args.number) (ap Some (sym c.of-turn.ensures)) in
    subst (λ z. AddsKind s y c.args.number z c.args.inside c.args.equations.now c.leaves.new.equations) (sym (ap (trees.kind_of b) c.in-Loop.is ∙ rules.kind_of-Loop b c.in-Loop.kind c.in-Loop.condition c.in-Loop.body))
    (loop_kind s y (walks.around b c.in_loop-inner.result) c.args.number c.args.inside c.in-Loop.kind (trees.script_of b c.in-Loop.condition) (trees.script_of b c.in-Loop.body)
    c.at-head.result c.in_any_case-again.result c.in_ok-tested.tested c.turned-left.result c.in_ok-after.after c.both.result c.of-turn.result
    c.args.equations.now c.list.new.equations c.list-2.new.equations c.bound.new.equations c.bound-2.new.equations c.leaves.new.equations
    (c.in_loop-inner.ensures b) c.of-turn.ensures own c.in_ok-tested.ensures.adds c.in_ok-tested.ensures.leaves (c.turned-left.ensures.turns (names s)) (c.turned-left.ensures.ends (names s))
    c.in_ok-after.ensures.adds c.in_ok-after.ensures.leaves c.in_ok-bound.ensures (c.in_any_case-again.ensures (names s)) c.in_ok-bound-2.ensures (c.both.ensures (names s)) c.in_ok-leaves.ensures)

pub branch-returns-clause-adds : goal.branch-returns-clause-adds
branch-returns-clause-adds t c =
    λ items u q k sight first second kept tallied.
    let tested = c.in_ok-tested.ensures.leaves q sight in
    c.in_ok-leaves.ensures items u k F6 _ (c.in_ok-after.ensures.leaves _ tested.zero) kept
    (c.in_ok-after.ensures.adds F6 items u _ k tested.zero second (c.in_ok-tested.ensures.adds F6 items u q k sight first tallied))

pub branch-returns-clause-left : goal.branch-returns-clause-left
branch-returns-clause-left t c = λ q sight. (c.in_ok-tested.ensures.leaves q sight).nonzero

pub branches-loop-branch-preserved : goal.branches-loop-branch-preserved
branches-loop-branch-preserved t c =
    let s = c.args.self.now in
    let y = walks.around s.script.now c.args.around.now in
    let here : BranchesLeft s y c.args.number c.args.known c.args.branches.now c.args.equations.now (c.branch-item.result ∷ drop (c.loop-branch.branch-index + 1) c.args.branches.now) c.loop-branch.equations c.loop-branch.left =
    subst (λ bs. BranchesLeft s y c.args.number c.args.known c.args.branches.now c.args.equations.now bs c.loop-branch.equations c.loop-branch.left) (at_index c.args.branches.now c.loop-branch.branch-index c.branch-item.result c.loop-branch-test.true c.branch-item.is) c.loop-branch.invariant.left in
    record { left = branches_next s y c.args.number c.args.known c.loop-branch.left c.in_ok-left.left c.args.branches.now c.args.equations.now c.loop-branch.equations c.branch-self.new.equations c.branch-item.result _ here c.in_ok-left.ensures.adds c.in_ok-left.ensures.left }

pub branches-returns-clause-adds : goal.branches-returns-clause-adds
branches-returns-clause-adds t c =
    let s = c.args.self.now in
    let y = walks.around s.script.now c.args.around.now in
    branches_added s y c.args.number c.args.known c.loop-branch.left c.args.branches.now c.args.equations.now c.loop-branch.equations
    (subst (λ bs. BranchesLeft s y c.args.number c.args.known c.args.branches.now c.args.equations.now bs c.loop-branch.equations c.loop-branch.left) (drop_all c.loop-branch.branch-index c.args.branches.now c.loop-branch-test.false) c.loop-branch.invariant.left)

pub branches-returns-clause-left : goal.branches-returns-clause-left
branches-returns-clause-left t c =
    let s = c.args.self.now in
    let y = walks.around s.script.now c.args.around.now in
    branches_seen s y c.args.number c.args.known c.loop-branch.left c.args.branches.now c.args.equations.now c.loop-branch.equations
    (subst (λ bs. BranchesLeft s y c.args.number c.args.known c.args.branches.now c.args.equations.now bs c.loop-branch.equations c.loop-branch.left) (drop_all c.loop-branch.branch-index c.args.branches.now c.loop-branch-test.false) c.loop-branch.invariant.left)

pub otherwise-returns-in_ok-after-in-Some : goal.otherwise-returns-in_ok-after-in-Some
otherwise-returns-in_ok-after-in-Some t c =
    let s = c.args.self.now in
    let b = s.script.now in
    let y = walks.around b c.args.around.now in
    IfOk-weaker c.leaves.result _ _
    (λ unit adds. otherwise_as s y c.args.number c.args.otherwise.now (Some c.in-Some.list) _ (otherwise_from b) c.args.known c.args.equations.now c.leaves.new.equations c.in-Some.is (rules.otherwise_from-Some b c.in-Some.list)
    (else_added s y c.args.number (trees.script_of b c.in-Some.list) c.args.known c.in_ok-after-in-Some.after c.args.equations.now c.list.new.equations c.leaves.new.equations c.in_ok-after-in-Some.ensures.adds c.in_ok-after-in-Some.ensures.leaves adds))
    c.leaves.ensures

pub otherwise-returns-in-None : goal.otherwise-returns-in-None
otherwise-returns-in-None t c =
    let s = c.args.self.now in
    let b = s.script.now in
    let y = walks.around b c.args.around.now in
    IfOk-weaker c.bound.result _ _
    (λ unit adds. otherwise_as s y c.args.number c.args.otherwise.now None _ (otherwise_from b) c.args.known c.args.equations.now c.bound.new.equations c.in-None.is (rules.otherwise_from-None b)
    (no_else_added s y c.args.number c.args.known c.of.result c.args.equations.now c.bound.new.equations c.of.ensures adds))
    c.bound.ensures

pub conditional-returns : goal.conditional-returns
conditional-returns t c =
    let s = c.args.self.now in
    let b = s.script.now in
    let y = walks.around b c.args.around.now in
    let bs = c.in-Cond.branches in
    let o = c.in-Cond.otherwise in
    let adds_branches = subst (λ xs. AddsBranches s y c.args.number (branches_from b xs) c.args.inside c.args.equations.now c.branches.new.equations) c.as_slice.ensures c.in_ok-left.ensures.adds in
    let seen = subst (λ xs. (q : views.Seen) → Sight s q c.args.inside → Sight s (entries.otherwise_seen q (branches_from b xs)) c.in_ok-left.left) c.as_slice.ensures c.in_ok-left.ensures.left in
    IfOk-weaker c.otherwise.result _ _
    (λ unit adds. subst (λ z. AddsKind s y c.args.number z c.args.inside c.args.equations.now c.otherwise.new.equations) (sym (ap (trees.kind_of b) c.in-Cond.is ∙ rules.kind_of-Cond b bs o))
    (conditional_kind s y c.args.number (branches_from b bs) (otherwise_from b o) c.args.inside c.in_ok-left.left c.args.equations.now c.branches.new.equations c.otherwise.new.equations adds_branches seen adds))
    c.otherwise.ensures

pub clause-returns-in_ok-leaves-in-Break-clause-adds : goal.clause-returns-in_ok-leaves-in-Break-clause-adds
clause-returns-in_ok-leaves-in-Break-clause-adds t c =
    let s = c.args.self.now in
    let b = s.script.now in
    let x = out-Clause c.args.clause.now in
    ended_clause s (walks.around b c.args.around.now) c.args.number (trees.script_of b x.body) x.end c.args.known c.in_ok-after.after c.args.equations.now c.list.new.equations c.leaves.new.equations c.in-Break.is
    c.in_ok-after.ensures.adds c.in_ok-after.ensures.leaves c.in_ok-leaves-in-Break.ensures

pub clause-returns-in_ok-leaves-in-Break-clause-left : goal.clause-returns-in_ok-leaves-in-Break-clause-left
clause-returns-in_ok-leaves-in-Break-clause-left t c =
    let s = c.args.self.now in
    let x = out-Clause c.args.clause.now in
    λ q sight. nothing_falls s (walks.around s.script.now c.args.around.now) c.args.number x.end _ c.both.result c.in-Break.is (c.both.ensures (names s) [] (record { first = tt; second = tt }))

pub clause-returns-in-FallThrough-clause-adds : goal.clause-returns-in-FallThrough-clause-adds
clause-returns-in-FallThrough-clause-adds t c =
    let s = c.args.self.now in
    let b = s.script.now in
    let x = out-Clause c.args.clause.now in
    fallen_clause s (walks.around b c.args.around.now) c.args.number (trees.script_of b x.body) x.end c.args.known c.args.equations.now c.list.new.equations c.in_ok-after.ensures.adds

pub clause-returns-in-FallThrough-clause-left : goal.clause-returns-in-FallThrough-clause-left
clause-returns-in-FallThrough-clause-left t c =
    let s = c.args.self.now in
    let x = out-Clause c.args.clause.now in
    λ q sight. all_falls s (walks.around s.script.now c.args.around.now) c.args.number x.end _ c.in_ok-after.after c.in-FallThrough.is (c.in_ok-after.ensures.leaves q sight)

pub clauses-loop-clause-init : goal.clauses-loop-clause-init
clauses-loop-clause-init t c =
    let s = c.args.self.now in
    record { left = clauses_begun s (walks.around s.script.now c.args.around.now) c.args.number c.args.known c.args.clauses.now c.args.equations.now c.both-left.result (λ q. c.both-left.ensures (names s) q (record { first = tt; second = tt })) }

pub patterns-loop-pattern-init : goal.patterns-loop-pattern-init
patterns-loop-pattern-init t c = record { left = patterns_begun c.args.self.now c.args.known c.args.patterns.now c.args.equations.now }

pub patterns-loop-pattern-preserved : goal.patterns-loop-pattern-preserved
patterns-loop-pattern-preserved t c =
    let s = c.args.self.now in
    let here : PatternsLeft s c.args.known c.args.patterns.now c.args.equations.now (c.pattern-item.result ∷ drop (c.loop-pattern.pattern-index + 1) c.args.patterns.now) c.loop-pattern.equations =
    subst (λ ws. PatternsLeft s c.args.known c.args.patterns.now c.args.equations.now ws c.loop-pattern.equations) (at_index c.args.patterns.now c.loop-pattern.pattern-index c.pattern-item.result c.loop-pattern-test.true c.pattern-item.is) c.loop-pattern.invariant.left in
    record { left = patterns_next s c.args.known c.args.patterns.now c.in_ok-word.field-0 c.args.equations.now c.loop-pattern.equations c.word.new.equations c.pattern-item.result _ here c.in_ok-word.ensures }

pub patterns-returns : goal.patterns-returns
patterns-returns t c =
    let s = c.args.self.now in
    patterns_added s c.args.known c.args.patterns.now c.args.equations.now c.loop-pattern.equations
    (subst (λ ws. PatternsLeft s c.args.known c.args.patterns.now c.args.equations.now ws c.loop-pattern.equations) (drop_all c.loop-pattern.pattern-index c.args.patterns.now c.loop-pattern-test.false) c.loop-pattern.invariant.left)

pub clauses-loop-clause-preserved : goal.clauses-loop-clause-preserved
clauses-loop-clause-preserved t c =
    let s = c.args.self.now in
    let y = walks.around s.script.now c.args.around.now in
    let here : ClausesLeft s y c.args.number c.args.known c.args.clauses.now c.args.equations.now (c.clause-item.result ∷ drop (c.loop-clause.clause-index + 1) c.args.clauses.now) c.loop-clause.equations c.loop-clause.left =
    subst (λ cs. ClausesLeft s y c.args.number c.args.known c.args.clauses.now c.args.equations.now cs c.loop-clause.equations c.loop-clause.left) (at_index c.args.clauses.now c.loop-clause.clause-index c.clause-item.result c.loop-clause-test.true c.clause-item.is) c.loop-clause.invariant.left in
    let patterns : AddsFrom s (λ q. entries.patterns_entered q (words_from s.script.now (out-Clause c.clause-item.result).patterns)) c.args.known c.loop-clause.equations c.patterns.new.equations =
    subst (λ ws. AddsFrom s (λ q. entries.patterns_entered q (words_from s.script.now ws)) c.args.known c.loop-clause.equations c.patterns.new.equations) c.as_slice.ensures c.in_ok-patterns.ensures in
    record {
      left = clauses_next s y c.args.number c.args.known c.in_any_case-fallen.result c.and-both.result c.args.clauses.now c.args.equations.now c.loop-clause.equations c.patterns.new.equations c.clause.new.equations c.clause-item.result _
          c.loop-clause.left c.in_ok-left.left here patterns (c.in_any_case-fallen.ensures (names s)) (c.and-both.ensures (names s)) c.in_ok-left.ensures.adds c.in_ok-left.ensures.left;
    }

pub clauses-returns : goal.clauses-returns
clauses-returns t c =
    let s = c.args.self.now in
    let y = walks.around s.script.now c.args.around.now in
    let here : ClausesLeft s y c.args.number c.args.known c.args.clauses.now c.args.equations.now [] c.loop-clause.equations c.loop-clause.left =
    subst (λ cs. ClausesLeft s y c.args.number c.args.known c.args.clauses.now c.args.equations.now cs c.loop-clause.equations c.loop-clause.left) (drop_all c.loop-clause.clause-index c.args.clauses.now c.loop-clause-test.false) c.loop-clause.invariant.left in
    IfOk-weaker c.leaves.result _ _
    (λ unit adds. clauses_added s y c.args.number c.args.known c.args.clauses.now c.args.equations.now c.loop-clause.equations c.leaves.new.equations c.loop-clause.left here adds)
    c.leaves.ensures

pub cases-returns : goal.cases-returns
cases-returns t c =
    let s = c.args.self.now in
    let b = s.script.now in
    let y = walks.around b c.args.around.now in
    let w = c.in-Branches.word in
    let cs = c.in-Branches.clauses in
    let adds = subst (λ xs. AddsClauses s y c.args.number (clauses_from b xs) c.in_ok-behind.behind c.word.new.equations c.clauses.new.equations) c.as_slice-listed.ensures c.in_ok-clauses.ensures in
    let more = subst (λ xs. IfOk c.unmatched.result (λ unit. AddsUnmatched s c.args.number (clauses_from b xs) c.in_ok-behind.behind c.clauses.new.equations c.unmatched.new.equations)) c.as_slice-listed.ensures c.unmatched.ensures in
    IfOk-weaker c.unmatched.result _ _
    (λ unit last. subst (λ z. AddsKind s y c.args.number z c.args.inside c.args.equations.now c.unmatched.new.equations) (sym (ap (trees.kind_of b) c.in-Branches.is ∙ rules.kind_of-Branches b w cs))
    (case_kind s y c.args.number (parts_from b w.parts) (clauses_from b cs) c.args.inside c.in_ok-behind.behind c.args.equations.now c.word.new.equations c.clauses.new.equations c.unmatched.new.equations c.in_ok-behind.ensures adds last))
    more

pub each_turn-returns : goal.each_turn-returns
unfolding index_of
each_turn-returns t c =
    let s = c.args.self.now in
    let b = s.script.now in
    let y = walks.around b c.args.around.now in
    let own = c.at-head.ensures (names s) (Head c.args.number) (ap Some (sym c.of-turn.ensures)) in
    turns_added s y (walks.around b c.in_loop-inner.result) c.args.number c.args.behind (trees.script_of b c.args.body.now) c.at-head.result c.in_any_case-again.result c.in_ok-after.after c.both.result c.of-turn.result
    c.args.equations.now c.list.new.equations c.bound.new.equations c.bound-2.new.equations c.leaves.new.equations (c.in_loop-inner.ensures b) c.of-turn.ensures own
    c.in_ok-after.ensures.adds c.in_ok-after.ensures.leaves c.in_ok-bound.ensures (c.in_any_case-again.ensures (names s)) c.in_ok-bound-2.ensures (c.both.ensures (names s) (at (Head c.args.number)) own) c.in_ok-leaves.ensures

pub for_turns-returns-in_ok-behind-in-Some : goal.for_turns-returns-in_ok-behind-in-Some
for_turns-returns-in_ok-behind-in-Some t c =
    let s = c.args.self.now in
    let b = s.script.now in
    let y = walks.around b c.args.around.now in
    let n = c.in-For.name in
    let ws = c.in-Some.words in
    let body = c.in-For.body in
    let same : trees.kind_of b c.args.of.now ≡ p.For (text_of b n) (p.listed (words_from b ws)) (trees.script_of b body) =
    ap (trees.kind_of b) c.in-For.is ∙ rules.kind_of-For b n c.in-For.words body ∙ ap (λ o. p.For (text_of b n) (for_words_from b o) (trees.script_of b body)) c.in-Some.is ∙ ap (λ o. p.For (text_of b n) o (trees.script_of b body)) (rules.for_words_from-Some b ws) in
    let passed = subst (λ xs. Passes s (λ q. entries.words_entered q (words_from b xs)) (words_gains (words_from b xs)) c.args.inside c.in_ok-behind-in-Some.behind c.args.equations.now c.words.new.equations) c.as_slice.ensures c.in_ok-behind-in-Some.ensures in
    IfOk-weaker c.each_turn.result _ _
    (λ unit adds. subst (λ z. AddsKind s y c.args.number z c.args.inside c.args.equations.now c.each_turn.new.equations) (sym same)
    (listed_kind s y c.args.number (text_of b n) (trees.script_of b body) c.args.inside (words_from b ws) c.in_ok-behind-in-Some.behind c.args.equations.now c.words.new.equations c.each_turn.new.equations passed adds))
    c.each_turn.ensures

pub for_turns-returns-in-None : goal.for_turns-returns-in-None
for_turns-returns-in-None t c =
    let s = c.args.self.now in
    let b = s.script.now in
    let y = walks.around b c.args.around.now in
    let n = c.in-For.name in
    let body = c.in-For.body in
    let same : trees.kind_of b c.args.of.now ≡ p.For (text_of b n) p.every_parameter (trees.script_of b body) =
    ap (trees.kind_of b) c.in-For.is ∙ rules.kind_of-For b n c.in-For.words body ∙ ap (λ o. p.For (text_of b n) (for_words_from b o) (trees.script_of b body)) c.in-None.is ∙ ap (λ o. p.For (text_of b n) o (trees.script_of b body)) (rules.for_words_from-None b) in
    IfOk-weaker c.each_turn-in-None.result _ _
    (λ unit adds. subst (λ z. AddsKind s y c.args.number z c.args.inside c.args.equations.now c.each_turn-in-None.new.equations) (sym same)
    (every_kind s y c.args.number (text_of b n) (trees.script_of b body) c.args.inside c.args.equations.now c.each_turn-in-None.new.equations adds))
    c.each_turn-in-None.ensures
