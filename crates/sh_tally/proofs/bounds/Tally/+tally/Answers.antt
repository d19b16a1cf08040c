mod Kinds
mod Words
use Rattle.std.proofs.Common.{arith, length, IfOk, ◌≡◌, ◌∷◌, ◌+◌, drop, refl, sym, ap, ◌∙◌, subst}
use Rattle.std.proofs.lemmas.List.{drop_all}
use Rattle.std.proofs.lemmas.Result.{IfOk-weaker}
use Rattle.sh_tree.specs.declared.tree.AndOr.{out-AndOr}
use Rattle.sh_tree.specs.declared.tree.Command.{out-Command}
use Rattle.sh_tree.specs.declared.tree.Item.{out-Item}
use Rattle.sh_tree.specs.Lists.{commands_from, elements_from, items_from, links_from, redirects_from}
use Rattle.sh_tree.specs.standard.Tree.{text_of}
use Rattle.sh_tree.specs.standard.program.Syntax as p
use Rattle.sh_tree.specs.standard.program.Trees as trees
use Rattle.sh_tree.proofs.ProgramRules as rules
use Rattle.sh_domain.specs.declared.rule.FlowRule.{FlowRule}
use Rattle.sh_domain.specs.Entries as entries
use Rattle.sh_domain.specs.Views as views
use Rattle.sh_domain.specs.Gains.{redirects_gains}
use Rattle.sh_domain.specs.Views.{Before, Entry, at}
use Rattle.sh_counts.specs.declared.equations.Change.TheVariants.{Raise}
use Rattle.sh_tally.specs.declared.places.End.TheVariants as end
use Rattle.sh_rules.specs.Walks as walks
use Rattle.sh_tally.specs.Walks.{Adds, AddsCommand, AddsFrom, AddsFunction, AddsRedirects, Leaves, LeavesFrom, Passes, Sight, names}
use Rattle.sh_tally.proofs.KindLemmas.{compound_added, define_added, kind_as}
use Rattle.sh_tally.proofs.RedirectLemmas.{command_redirected}
use Rattle.sh_tally.proofs.WordLemmas.{simple_added}
use Rattle.sh_tally.proofs.WalkLemmas.{ItemsLeft, LinksLeft, PartsLeft, one_of, pipe_many_added, pipe_many_left, pipe_one_added, pipe_one_left, before_index, parts_added, background_added, and_added, and_left, at_index, background_left, foreground_added, foreground_left, items_added, items_left, items_next, links_added, links_left, links_next, list_added, list_leaves, or_added, or_left, parts_next}
use Rattle.sh_tally.proofs.bounds.Tally.+tally.Goals as goal
use Rattle.sh_tally.proofs.bounds.Tally.+tally.Answers.Kinds as kinds
use Rattle.sh_tally.proofs.bounds.Tally.+tally.Answers.Words as words

pub list-returns-clause-adds : goal.list-returns-clause-adds
list-returns-clause-adds t c =
    let s = c.args.self.now in
    let same : items_from s.script.now c.as_slice.result.now ≡ trees.script_of s.script.now c.args.list.now = ap (items_from s.script.now) c.as_slice.ensures ∙ sym (rules.script_of-out s.script.now c.args.list.now) in
    subst (λ z. IfOk c.items.result (λ after. (by : FlowRule) → AddsFrom s (λ q. entries.items_entered by (walks.around s.script.now c.args.around.now) (views.Both q) z) c.args.known c.args.equations.now c.items.new.equations)) same c.items.ensures.adds

pub list-returns-clause-leaves : goal.list-returns-clause-leaves
list-returns-clause-leaves t c =
    let s = c.args.self.now in
    let same : items_from s.script.now c.as_slice.result.now ≡ trees.script_of s.script.now c.args.list.now = ap (items_from s.script.now) c.as_slice.ensures ∙ sym (rules.script_of-out s.script.now c.args.list.now) in
    subst (λ z. IfOk c.items.result (λ after. LeavesFrom s (λ q. entries.items_after (views.Both q) z) c.args.known after)) same c.items.ensures.leaves

pub and_or-returns-clause-adds : goal.and_or-returns-clause-adds
and_or-returns-clause-adds t c =
    let s = c.args.self.now in
    let y = walks.around s.script.now c.args.around.now in
    let more : IfOk c.links.result (λ after. Adds s (λ o. entries.links_entered y o (links_from s.script.now (out-AndOr c.args.list.now).rest)) c.in_ok-after.after c.pipe.new.equations c.links.new.equations) =
    subst (λ ls. IfOk c.links.result (λ after. Adds s (λ o. entries.links_entered y o (links_from s.script.now ls)) c.in_ok-after.after c.pipe.new.equations c.links.new.equations)) c.as_slice.ensures c.links.ensures.adds in
    IfOk-weaker c.links.result _ _ (λ after adds by. list_added s y c.args.list.now c.args.known c.in_ok-after.after c.args.equations.now c.pipe.new.equations c.links.new.equations by (c.in_ok-after.ensures.adds by) c.in_ok-after.ensures.leaves adds) more

pub and_or-returns-clause-leaves : goal.and_or-returns-clause-leaves
and_or-returns-clause-leaves t c =
    let s = c.args.self.now in
    let y = walks.around s.script.now c.args.around.now in
    let more : IfOk c.links.result (λ after. Leaves s (λ o. entries.links_after o (links_from s.script.now (out-AndOr c.args.list.now).rest)) c.in_ok-after.after after) =
    subst (λ ls. IfOk c.links.result (λ after. Leaves s (λ o. entries.links_after o (links_from s.script.now ls)) c.in_ok-after.after after)) c.as_slice.ensures c.links.ensures.leaves in
    IfOk-weaker c.links.result _ _ (λ after leaves. list_leaves s y c.args.list.now c.args.known c.in_ok-after.after after c.in_ok-after.ensures.leaves leaves) more

pub item-returns-then-not-item-clause-adds : goal.item-returns-then-not-item-clause-adds
item-returns-then-not-item-clause-adds t c =
    let s = c.args.self.now in
    IfOk-weaker c.and_or.result _ _
    (λ after adds. foreground_added s (walks.around s.script.now c.args.around.now) c.args.before c.in_any_case-known.result (c.in_any_case-known.ensures (names s)) (trees.and_or_of s.script.now (out-Item c.args.item.now).list) (out-Item c.args.item.now).background c.args.equations.now c.and_or.new.equations c.if-not-item.true adds)
    c.and_or.ensures.adds

pub item-returns-then-not-item-clause-leaves : goal.item-returns-then-not-item-clause-leaves
item-returns-then-not-item-clause-leaves t c =
    let s = c.args.self.now in
    IfOk-weaker c.and_or.result _ _
    (λ after leaves. foreground_left s (walks.around s.script.now c.args.around.now) c.args.before c.in_any_case-known.result (c.in_any_case-known.ensures (names s)) (trees.and_or_of s.script.now (out-Item c.args.item.now).list) (out-Item c.args.item.now).background after c.if-not-item.true leaves)
    c.and_or.ensures.leaves

pub item-returns-clause-adds : goal.item-returns-clause-adds
item-returns-clause-adds t c =
    let s = c.args.self.now in
    background_added s (walks.around s.script.now c.args.around.now) c.args.before c.in_any_case-known.result (c.in_any_case-known.ensures (names s)) (walks.around s.script.now c.alone-outside.result) (trees.and_or_of s.script.now (out-Item c.args.item.now).list) (out-Item c.args.item.now).background c.args.equations.now _ c.if-not-item.false (c.alone-outside.ensures s.script.now) c.in_ok-and_or.ensures.adds

pub item-returns-clause-leaves : goal.item-returns-clause-leaves
item-returns-clause-leaves t c =
    let s = c.args.self.now in
    background_left s (walks.around s.script.now c.args.around.now) c.args.before c.in_any_case-known.result (c.in_any_case-known.ensures (names s)) (trees.and_or_of s.script.now (out-Item c.args.item.now).list) (out-Item c.args.item.now).background _ c.if-not-item.false refl refl refl

pub link-returns-in_ok-after-in-AndThen-clause-adds : goal.link-returns-in_ok-after-in-AndThen-clause-adds
link-returns-in_ok-after-in-AndThen-clause-adds t c =
    let s = c.args.self.now in
    and_added s (walks.around s.script.now c.args.around.now) c.args.before c.in_ok-after-in-AndThen.after c.args.equations.now _ (trees.pipeline_of s.script.now c.args.pipe.now) c.in_ok-after-in-AndThen.ensures.adds c.args.link c.in-AndThen.is

pub link-returns-in_ok-after-in-AndThen-clause-leaves : goal.link-returns-in_ok-after-in-AndThen-clause-leaves
link-returns-in_ok-after-in-AndThen-clause-leaves t c =
    let s = c.args.self.now in
    and_left s (walks.around s.script.now c.args.around.now) c.args.before c.in_ok-after-in-AndThen.after c.args.equations.now c.args.equations.now (trees.pipeline_of s.script.now c.args.pipe.now) c.and.result c.in_ok-after-in-AndThen.ensures.leaves (c.and.ensures (names s)) c.args.link c.in-AndThen.is

pub link-returns-in_ok-after-in-OrElse-clause-adds : goal.link-returns-in_ok-after-in-OrElse-clause-adds
link-returns-in_ok-after-in-OrElse-clause-adds t c =
    let s = c.args.self.now in
    or_added s (walks.around s.script.now c.args.around.now) c.args.before c.in_ok-after-in-OrElse.after c.args.equations.now _ (trees.pipeline_of s.script.now c.args.pipe.now) c.in_ok-after-in-OrElse.ensures.adds c.args.link c.in-OrElse.is

pub link-returns-in_ok-after-in-OrElse-clause-leaves : goal.link-returns-in_ok-after-in-OrElse-clause-leaves
link-returns-in_ok-after-in-OrElse-clause-leaves t c =
    let s = c.args.self.now in
    or_left s (walks.around s.script.now c.args.around.now) c.args.before c.in_ok-after-in-OrElse.after c.args.equations.now c.args.equations.now (trees.pipeline_of s.script.now c.args.pipe.now) c.and-in-OrElse.result c.in_ok-after-in-OrElse.ensures.leaves (c.and-in-OrElse.ensures (names s)) c.args.link c.in-OrElse.is

pub items-loop-item-preserved : goal.items-loop-item-preserved
items-loop-item-preserved t c =
    let s = c.args.self.now in
    let y = walks.around s.script.now c.args.around.now in
    let here : ItemsLeft s y c.args.known c.args.items.now c.args.equations.now (c.item-item.result ∷ drop (c.loop-item.item-index + 1) c.args.items.now) c.loop-item.equations c.loop-item.after =
    subst (λ is. ItemsLeft s y c.args.known c.args.items.now c.args.equations.now is c.loop-item.equations c.loop-item.after) (at_index c.args.items.now c.loop-item.item-index c.item-item.result c.loop-item-test.true c.item-item.is) c.loop-item.invariant.left in
    record { left = items_next s y c.args.known c.args.items.now c.args.equations.now c.loop-item.equations c.item.new.equations c.item-item.result _ c.loop-item.after c.in_ok-after.after here c.in_ok-after.ensures.adds c.in_ok-after.ensures.leaves }

pub items-returns-clause-adds : goal.items-returns-clause-adds
items-returns-clause-adds t c =
    let s = c.args.self.now in
    let y = walks.around s.script.now c.args.around.now in
    items_added s y c.args.known c.args.items.now c.args.equations.now c.loop-item.equations c.loop-item.after
    (subst (λ is. ItemsLeft s y c.args.known c.args.items.now c.args.equations.now is c.loop-item.equations c.loop-item.after) (drop_all c.loop-item.item-index c.args.items.now c.loop-item-test.false) c.loop-item.invariant.left)

pub items-returns-clause-leaves : goal.items-returns-clause-leaves
items-returns-clause-leaves t c =
    let s = c.args.self.now in
    let y = walks.around s.script.now c.args.around.now in
    items_left s y c.args.known c.args.items.now c.args.equations.now c.loop-item.equations c.loop-item.after
    (subst (λ is. ItemsLeft s y c.args.known c.args.items.now c.args.equations.now is c.loop-item.equations c.loop-item.after) (drop_all c.loop-item.item-index c.args.items.now c.loop-item-test.false) c.loop-item.invariant.left)

pub links-loop-link-preserved : goal.links-loop-link-preserved
links-loop-link-preserved t c =
    let s = c.args.self.now in
    let y = walks.around s.script.now c.args.around.now in
    let here : LinksLeft s y c.args.before c.args.links.now c.args.equations.now (c.link-item.result ∷ drop (c.loop-link.link-index + 1) c.args.links.now) c.loop-link.equations c.loop-link.after =
    subst (λ ls. LinksLeft s y c.args.before c.args.links.now c.args.equations.now ls c.loop-link.equations c.loop-link.after) (at_index c.args.links.now c.loop-link.link-index c.link-item.result c.loop-link-test.true c.link-item.is) c.loop-link.invariant.left in
    record { left = links_next s y c.args.before c.args.links.now c.args.equations.now c.loop-link.equations c.link.new.equations c.link-item.result _ c.loop-link.after c.in_ok-after.after here c.in_ok-after.ensures.adds c.in_ok-after.ensures.leaves }

pub links-returns-clause-adds : goal.links-returns-clause-adds
links-returns-clause-adds t c =
    let s = c.args.self.now in
    let y = walks.around s.script.now c.args.around.now in
    links_added s y c.args.before c.args.links.now c.args.equations.now c.loop-link.equations c.loop-link.after
    (subst (λ ls. LinksLeft s y c.args.before c.args.links.now c.args.equations.now ls c.loop-link.equations c.loop-link.after) (drop_all c.loop-link.link-index c.args.links.now c.loop-link-test.false) c.loop-link.invariant.left)

pub links-returns-clause-leaves : goal.links-returns-clause-leaves
links-returns-clause-leaves t c =
    let s = c.args.self.now in
    let y = walks.around s.script.now c.args.around.now in
    links_left s y c.args.before c.args.links.now c.args.equations.now c.loop-link.equations c.loop-link.after
    (subst (λ ls. LinksLeft s y c.args.before c.args.links.now c.args.equations.now ls c.loop-link.equations c.loop-link.after) (drop_all c.loop-link.link-index c.args.links.now c.loop-link-test.false) c.loop-link.invariant.left)

pub parts-loop-command-preserved : goal.parts-loop-command-preserved
parts-loop-command-preserved t c =
    let s = c.args.self.now in
    let y = walks.around s.script.now c.args.around.now in
    let here : PartsLeft s y c.args.known c.args.parts.now c.args.equations.now (c.command-item.result ∷ drop (c.loop-command.command-index + 1) c.args.parts.now) c.loop-command.equations =
    subst (λ cs. PartsLeft s y c.args.known c.args.parts.now c.args.equations.now cs c.loop-command.equations) (at_index c.args.parts.now c.loop-command.command-index c.command-item.result c.loop-command-test.true c.command-item.is) c.loop-command.invariant.left in
    record { left = parts_next s y c.args.known c.args.parts.now c.args.equations.now c.loop-command.equations c.command.new.equations c.command-item.result _ here c.in_ok-command.ensures }

pub parts-returns : goal.parts-returns
parts-returns t c =
    let s = c.args.self.now in
    let y = walks.around s.script.now c.args.around.now in
    parts_added s y c.args.known c.args.parts.now c.args.equations.now c.loop-command.equations
    (subst (λ cs. PartsLeft s y c.args.known c.args.parts.now c.args.equations.now cs c.loop-command.equations) (drop_all c.loop-command.command-index c.args.parts.now c.loop-command-test.false) c.loop-command.invariant.left)

pub pipe-returns-in-empty-clause-leaves : goal.pipe-returns-in-empty-clause-leaves
pipe-returns-in-empty-clause-leaves t c =
    λ q sight.
    let s = c.args.self.now in
    let few = c.in-empty.len_below in
    pipe_many_left s (walks.around s.script.now c.args.around.now) c.args.pipe.now c.swapped.result q (λ one. let same = ap length c.as_slice.ensures in omega (arith, one, few, same))
    (c.swapped.ensures (names s) (views.Both q) (c.both.ensures (names s) q sight))

pub pipe-returns-in_ok-command-in-len1-clause-adds : goal.pipe-returns-in_ok-command-in-len1-clause-adds
pipe-returns-in_ok-command-in-len1-clause-adds t c =
    let s = c.args.self.now in
    let low = c.in-len1.len_at_least in
    let high = c.in-len1.len_below in
    let one = sym c.as_slice.ensures ∙ one_of c.as_slice.result.now c.command-item.result (omega (arith, low)) (omega (arith, high)) c.command-item.is in
    pipe_one_added s (walks.around s.script.now c.args.around.now) c.args.pipe.now c.command-item.result c.args.known c.args.equations.now c.command.new.equations one c.in_ok-command-in-len1.ensures

pub pipe-returns-in_ok-command-in-len1-clause-leaves : goal.pipe-returns-in_ok-command-in-len1-clause-leaves
pipe-returns-in_ok-command-in-len1-clause-leaves t c =
    λ q sight.
    let s = c.args.self.now in
    let low = c.in-len1.len_at_least in
    let high = c.in-len1.len_below in
    let one = sym c.as_slice.ensures ∙ one_of c.as_slice.result.now c.command-item.result (omega (arith, low)) (omega (arith, high)) c.command-item.is in
    pipe_one_left s (walks.around s.script.now c.args.around.now) c.args.pipe.now c.command-item.result c.swapped-in-len1.result one
    (c.swapped-in-len1.ensures (names s) _ (c.command-in-len1.ensures (names s))) q

pub pipe-returns-in_ok-parts-in-len2-up-clause-adds : goal.pipe-returns-in_ok-parts-in-len2-up-clause-adds
pipe-returns-in_ok-parts-in-len2-up-clause-adds t c =
    let s = c.args.self.now in
    let y = walks.around s.script.now c.args.around.now in
    let z = walks.around s.script.now c.round_parts-inner.result in
    let many = c.in-len2-up.len_at_least in
    let same = ap length c.as_slice.ensures in
    let adds = subst (λ ps. (by : FlowRule) → AddsFrom s (λ q. entries.commands_entered by z q (commands_from s.script.now ps)) c.args.known c.args.equations.now c.parts.new.equations) c.as_slice-in-len2-up.ensures c.in_ok-parts-in-len2-up.ensures in
    pipe_many_added s y c.args.pipe.now z c.args.known c.args.equations.now c.parts.new.equations (omega (arith, many, same)) (c.round_parts-inner.ensures s.script.now) adds

pub pipe-returns-in_ok-parts-in-len2-up-clause-leaves : goal.pipe-returns-in_ok-parts-in-len2-up-clause-leaves
pipe-returns-in_ok-parts-in-len2-up-clause-leaves t c =
    λ q sight.
    let s = c.args.self.now in
    let many = c.in-len2-up.len_at_least in
    let same = ap length c.as_slice.ensures in
    pipe_many_left s (walks.around s.script.now c.args.around.now) c.args.pipe.now c.swapped-in-len2-up.result q (λ one. omega (arith, one, many, same))
    (c.swapped-in-len2-up.ensures (names s) (views.Both q) (c.both-in-len2-up.ensures (names s) q sight))

pub simple-returns : goal.simple-returns
simple-returns t c =
    let s = c.args.self.now in
    let b = s.script.now in
    let y = walks.around b c.args.around.now in
    IfOk-weaker c.simple_bounds.result _ _
    (λ unit adds. simple_added s y c.args.number (elements_from b c.args.elements.now) c.args.inside c.in_ok-words.words c.in_ok-left.left c.args.equations.now c.operands.new.equations c.values.new.equations c.simple_bounds.new.equations
    c.in_ok-words.ensures c.in_ok-left.ensures adds)
    c.simple_bounds.ensures

pub define-returns : goal.define-returns
define-returns t c =
    let s = c.args.self.now in
    let b = s.script.now in
    let y = walks.around b c.args.around.now in
    let f = text_of b c.args.name in
    let own = subst (λ x. Sight s (at (Entry x)) c.entered-known.result) c.text-text.ensures c.entered-known.ensures in
    let first = subst (λ x. AddsFunction s end.Zero x c.command-after.result.zero (Raise 0) c.command.new.equations c.bound_function.new.equations) c.text-text.ensures c.in_ok-bound_function.ensures in
    let second = subst (λ x. AddsFunction s end.Nonzero x c.command-after.result.nonzero (Raise 0) c.bound_function.new.equations c.bound_function-2.new.equations) c.text-text.ensures c.in_ok-bound_function-2.ensures in
    define_added s y (walks.around b c.in_function-outside.result) c.args.number f c.args.body.now c.args.inside c.entered-known.result c.command-after.result c.of.result c.args.equations.now c.command.new.equations c.bound_function.new.equations c.bound_function-2.new.equations c.bound.new.equations
    (c.in_function-outside.ensures b) own c.in_ok-command.ensures (c.command-after.ensures (names s)) first second c.of.ensures c.in_ok-bound.ensures

pub command-returns : goal.command-returns
command-returns t c =
    let s = c.args.self.now in
    let b = s.script.now in
    let y = walks.around b c.args.around.now in
    let m = c.args.command.now in
    let own = c.at.ensures (names s) (Before (out-Command m).number) (before_index s m c.of-place.result c.of-place.ensures) in
    let fails = subst (λ rs. AddsRedirects s (out-Command m).number (redirects_from b rs) c.bound.new.equations c.not_redirected.new.equations) c.as_slice-redirects.ensures c.in_ok-not_redirected.ensures in
    let passed = subst (λ rs. Passes s (λ q. entries.redirects_entered q (redirects_from b rs)) (redirects_gains (redirects_from b rs)) c.at.result c.in_ok-inside.inside c.not_redirected.new.equations c.redirects.new.equations) c.as_slice-redirects.ensures c.in_ok-inside.ensures in
    IfOk-weaker c.kind.result _ _
    (λ unit adds. command_redirected s y m c.args.known c.of-place.result c.args.equations.now c.bound.new.equations c.not_redirected.new.equations c.redirects.new.equations c.kind.new.equations c.of-place.ensures c.in_ok-bound.ensures fails
    c.at.result c.in_ok-inside.inside own passed adds)
    c.kind.ensures

pub kind-returns-in-Group : goal.kind-returns-in-Group
kind-returns-in-Group t c =
    let s = c.args.self.now in
    let b = s.script.now in
    let y = walks.around b c.args.around.now in
    IfOk-weaker c.group.result _ _
    (λ unit adds. kind_as s y c.args.number c.args.kind.now _ _ c.args.inside c.args.equations.now c.group.new.equations c.in-Group.is (rules.kind_of-Group b _) (compound_added s y c.args.number _ c.args.inside c.args.equations.now c.group.new.equations adds))
    c.group.ensures

pub kind-returns-in-Subshell : goal.kind-returns-in-Subshell
kind-returns-in-Subshell t c =
    let s = c.args.self.now in
    let b = s.script.now in
    let y = walks.around b c.args.around.now in
    IfOk-weaker c.subshell.result _ _
    (λ unit adds. kind_as s y c.args.number c.args.kind.now _ _ c.args.inside c.args.equations.now c.subshell.new.equations c.in-Subshell.is (rules.kind_of-Subshell b _) (compound_added s y c.args.number _ c.args.inside c.args.equations.now c.subshell.new.equations adds))
    c.subshell.ensures

pub kind-returns-in-Loop : goal.kind-returns-in-Loop
kind-returns-in-Loop t c =
    IfOk-weaker c.turns.result _ _
    (λ unit adds. compound_added c.args.self.now (walks.around c.args.self.now.script.now c.args.around.now) c.args.number _ c.args.inside c.args.equations.now c.turns.new.equations adds)
    c.turns.ensures

pub kind-returns-in-Define : goal.kind-returns-in-Define
kind-returns-in-Define t c =
    let s = c.args.self.now in
    let b = s.script.now in
    let y = walks.around b c.args.around.now in
    let f = text_of b c.in-Define.name in
    IfOk-weaker c.define.result _ _
    (λ unit adds. kind_as s y c.args.number c.args.kind.now _ _ c.args.inside c.args.equations.now c.define.new.equations c.in-Define.is (rules.kind_of-Define b c.in-Define.name c.in-Define.body)
    (subst (λ m. AddsCommand s y c.args.number (p.Define f (trees.command_of b m)) c.args.inside c.args.equations.now c.define.new.equations) c.get.ensures adds))
    c.define.ensures

pub kind-returns-in-Simple : goal.kind-returns-in-Simple
kind-returns-in-Simple t c =
    let s = c.args.self.now in
    let b = s.script.now in
    let y = walks.around b c.args.around.now in
    let es = c.in-Simple.elements in
    IfOk-weaker c.simple.result _ _
    (λ unit adds. kind_as s y c.args.number c.args.kind.now _ _ c.args.inside c.args.equations.now c.simple.new.equations c.in-Simple.is (rules.kind_of-Simple b es)
    (subst (λ xs. AddsCommand s y c.args.number (p.Simple (elements_from b xs)) c.args.inside c.args.equations.now c.simple.new.equations) c.as_slice-elements.ensures adds))
    c.simple.ensures

pub kind-returns-in-Cond : goal.kind-returns-in-Cond
kind-returns-in-Cond t c =
    IfOk-weaker c.conditional.result _ _
    (λ unit adds. compound_added c.args.self.now (walks.around c.args.self.now.script.now c.args.around.now) c.args.number _ c.args.inside c.args.equations.now c.conditional.new.equations adds)
    c.conditional.ensures

pub kind-returns-in-For : goal.kind-returns-in-For
kind-returns-in-For t c =
    IfOk-weaker c.for_turns.result _ _
    (λ unit adds. compound_added c.args.self.now (walks.around c.args.self.now.script.now c.args.around.now) c.args.number _ c.args.inside c.args.equations.now c.for_turns.new.equations adds)
    c.for_turns.ensures

pub kind-returns-in-Branches : goal.kind-returns-in-Branches
kind-returns-in-Branches t c =
    IfOk-weaker c.cases.result _ _
    (λ unit adds. compound_added c.args.self.now (walks.around c.args.self.now.script.now c.args.around.now) c.args.number _ c.args.inside c.args.equations.now c.cases.new.equations adds)
    c.cases.ensures

pub group-returns : goal.group-returns
group-returns = kinds.group-returns

pub subshell-returns : goal.subshell-returns
subshell-returns = kinds.subshell-returns

pub turns-returns : goal.turns-returns
turns-returns = kinds.turns-returns

pub branch-returns-clause-adds : goal.branch-returns-clause-adds
branch-returns-clause-adds = kinds.branch-returns-clause-adds

pub branch-returns-clause-left : goal.branch-returns-clause-left
branch-returns-clause-left = kinds.branch-returns-clause-left

pub branches-loop-branch-preserved : goal.branches-loop-branch-preserved
branches-loop-branch-preserved = kinds.branches-loop-branch-preserved

pub branches-returns-clause-adds : goal.branches-returns-clause-adds
branches-returns-clause-adds = kinds.branches-returns-clause-adds

pub branches-returns-clause-left : goal.branches-returns-clause-left
branches-returns-clause-left = kinds.branches-returns-clause-left

pub otherwise-returns-in_ok-after-in-Some : goal.otherwise-returns-in_ok-after-in-Some
otherwise-returns-in_ok-after-in-Some = kinds.otherwise-returns-in_ok-after-in-Some

pub otherwise-returns-in-None : goal.otherwise-returns-in-None
otherwise-returns-in-None = kinds.otherwise-returns-in-None

pub conditional-returns : goal.conditional-returns
conditional-returns = kinds.conditional-returns

pub clause-returns-in_ok-leaves-in-Break-clause-adds : goal.clause-returns-in_ok-leaves-in-Break-clause-adds
clause-returns-in_ok-leaves-in-Break-clause-adds = kinds.clause-returns-in_ok-leaves-in-Break-clause-adds

pub clause-returns-in_ok-leaves-in-Break-clause-left : goal.clause-returns-in_ok-leaves-in-Break-clause-left
clause-returns-in_ok-leaves-in-Break-clause-left = kinds.clause-returns-in_ok-leaves-in-Break-clause-left

pub clause-returns-in-FallThrough-clause-adds : goal.clause-returns-in-FallThrough-clause-adds
clause-returns-in-FallThrough-clause-adds = kinds.clause-returns-in-FallThrough-clause-adds

pub clause-returns-in-FallThrough-clause-left : goal.clause-returns-in-FallThrough-clause-left
clause-returns-in-FallThrough-clause-left = kinds.clause-returns-in-FallThrough-clause-left

pub clauses-loop-clause-init : goal.clauses-loop-clause-init
clauses-loop-clause-init = kinds.clauses-loop-clause-init

pub patterns-loop-pattern-init : goal.patterns-loop-pattern-init
patterns-loop-pattern-init = kinds.patterns-loop-pattern-init

pub patterns-loop-pattern-preserved : goal.patterns-loop-pattern-preserved
patterns-loop-pattern-preserved = kinds.patterns-loop-pattern-preserved

pub patterns-returns : goal.patterns-returns
patterns-returns = kinds.patterns-returns

pub clauses-loop-clause-preserved : goal.clauses-loop-clause-preserved
clauses-loop-clause-preserved = kinds.clauses-loop-clause-preserved

pub clauses-returns : goal.clauses-returns
clauses-returns = kinds.clauses-returns

pub cases-returns : goal.cases-returns
cases-returns = kinds.cases-returns

pub each_turn-returns : goal.each_turn-returns
each_turn-returns = kinds.each_turn-returns

pub for_turns-returns-in_ok-behind-in-Some : goal.for_turns-returns-in_ok-behind-in-Some
for_turns-returns-in_ok-behind-in-Some = kinds.for_turns-returns-in_ok-behind-in-Some

pub for_turns-returns-in-None : goal.for_turns-returns-in-None
for_turns-returns-in-None = kinds.for_turns-returns-in-None

pub target-returns-in-File : goal.target-returns-in-File
target-returns-in-File = words.target-returns-in-File

pub target-returns-in-Here : goal.target-returns-in-Here
target-returns-in-Here = words.target-returns-in-Here

pub word-returns : goal.word-returns
word-returns = words.word-returns

pub word_parts-loop-part-preserved : goal.word_parts-loop-part-preserved
word_parts-loop-part-preserved = words.word_parts-loop-part-preserved

pub word_parts-returns : goal.word_parts-returns
word_parts-returns = words.word_parts-returns

pub part-returns-in-Plain : goal.part-returns-in-Plain
part-returns-in-Plain = words.part-returns-in-Plain

pub part-returns-in-Escaped : goal.part-returns-in-Escaped
part-returns-in-Escaped = words.part-returns-in-Escaped

pub part-returns-in-Single : goal.part-returns-in-Single
part-returns-in-Single = words.part-returns-in-Single

pub part-returns-in-Tilde : goal.part-returns-in-Tilde
part-returns-in-Tilde = words.part-returns-in-Tilde

pub part-returns-in-Joined : goal.part-returns-in-Joined
part-returns-in-Joined = words.part-returns-in-Joined

pub part-returns-in-Double : goal.part-returns-in-Double
part-returns-in-Double = words.part-returns-in-Double

pub part-returns-in-Param : goal.part-returns-in-Param
part-returns-in-Param = words.part-returns-in-Param

pub part-returns-in-Arith : goal.part-returns-in-Arith
part-returns-in-Arith = words.part-returns-in-Arith

pub part-returns-in_ok-list-in-Command : goal.part-returns-in_ok-list-in-Command
part-returns-in_ok-list-in-Command = words.part-returns-in_ok-list-in-Command

pub arithmetic-returns-in-Constant : goal.arithmetic-returns-in-Constant
arithmetic-returns-in-Constant = words.arithmetic-returns-in-Constant

pub arithmetic-returns-in-Variable : goal.arithmetic-returns-in-Variable
arithmetic-returns-in-Variable = words.arithmetic-returns-in-Variable

pub arithmetic-returns-in-Expansion : goal.arithmetic-returns-in-Expansion
arithmetic-returns-in-Expansion = words.arithmetic-returns-in-Expansion

pub arithmetic-returns-in-Parenthesis : goal.arithmetic-returns-in-Parenthesis
arithmetic-returns-in-Parenthesis = words.arithmetic-returns-in-Parenthesis

pub arithmetic-returns-in-Unary : goal.arithmetic-returns-in-Unary
arithmetic-returns-in-Unary = words.arithmetic-returns-in-Unary

pub arithmetic-returns-in-Assign : goal.arithmetic-returns-in-Assign
arithmetic-returns-in-Assign = words.arithmetic-returns-in-Assign

pub arithmetic-returns-in_ok-left-in-Chain : goal.arithmetic-returns-in_ok-left-in-Chain
arithmetic-returns-in_ok-left-in-Chain = words.arithmetic-returns-in_ok-left-in-Chain

pub arithmetic-returns-in_ok-left-in-Choice : goal.arithmetic-returns-in_ok-left-in-Choice
arithmetic-returns-in_ok-left-in-Choice = words.arithmetic-returns-in_ok-left-in-Choice

pub chain-loop-link-preserved : goal.chain-loop-link-preserved
chain-loop-link-preserved = words.chain-loop-link-preserved

pub chain-returns : goal.chain-returns
chain-returns = words.chain-returns

pub operator-returns-in-Value : goal.operator-returns-in-Value
operator-returns-in-Value = words.operator-returns-in-Value

pub operator-returns-in-Length : goal.operator-returns-in-Length
operator-returns-in-Length = words.operator-returns-in-Length

pub operator-returns-in_ok-word-in-Remove : goal.operator-returns-in_ok-word-in-Remove
operator-returns-in_ok-word-in-Remove = words.operator-returns-in_ok-word-in-Remove

pub operator-returns-in_ok-word-in-Use : goal.operator-returns-in_ok-word-in-Use
operator-returns-in_ok-word-in-Use = words.operator-returns-in_ok-word-in-Use

pub operands-loop-element-preserved : goal.operands-loop-element-preserved
operands-loop-element-preserved = words.operands-loop-element-preserved

pub operands-returns : goal.operands-returns
operands-returns = words.operands-returns

pub values-loop-element-preserved : goal.values-loop-element-preserved
values-loop-element-preserved = words.values-loop-element-preserved

pub values-returns : goal.values-returns
values-returns = words.values-returns

pub operand-returns-in-Word : goal.operand-returns-in-Word
operand-returns-in-Word = words.operand-returns-in-Word

pub operand-returns-in-Assignment : goal.operand-returns-in-Assignment
operand-returns-in-Assignment = words.operand-returns-in-Assignment

pub operand-returns-in-Redirection : goal.operand-returns-in-Redirection
operand-returns-in-Redirection = words.operand-returns-in-Redirection

pub value-returns-in-Word : goal.value-returns-in-Word
value-returns-in-Word = words.value-returns-in-Word

pub value-returns-in-Assignment : goal.value-returns-in-Assignment
value-returns-in-Assignment = words.value-returns-in-Assignment

pub value-returns-in-Redirection : goal.value-returns-in-Redirection
value-returns-in-Redirection = words.value-returns-in-Redirection

pub values-loop-element-init : goal.values-loop-element-init
values-loop-element-init = words.values-loop-element-init

pub words-loop-word-init : goal.words-loop-word-init
words-loop-word-init = words.words-loop-word-init

pub words-loop-word-preserved : goal.words-loop-word-preserved
words-loop-word-preserved = words.words-loop-word-preserved

pub words-returns : goal.words-returns
words-returns = words.words-returns

pub redirects-loop-redirect-init : goal.redirects-loop-redirect-init
redirects-loop-redirect-init = words.redirects-loop-redirect-init

pub redirects-loop-redirect-preserved : goal.redirects-loop-redirect-preserved
redirects-loop-redirect-preserved = words.redirects-loop-redirect-preserved

pub redirects-returns : goal.redirects-returns
redirects-returns = words.redirects-returns
