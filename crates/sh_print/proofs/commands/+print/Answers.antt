use Rattle.std.proofs.Common.{◌≡◌, ◌-◌, ◌++◌, take, drop, length, codes, sym, ap, ◌∙◌}
use Rattle.std.proofs.lemmas.List.{append-nil}
use Rattle.sh_tree.specs.declared.tree.AndOr.{out-AndOr}
use Rattle.sh_tree.specs.declared.tree.Item.{out-Item}
use Rattle.sh_tree.specs.declared.tree.Pipe.{out-Pipe}
use Rattle.std.specs.List.{flat_map}
use Rattle.sh_tree.specs.declared.tree.Kind.TheVariants as kind
use Rattle.sh_tree.specs.standard.Tree.{text_of}
use Rattle.sh_print.specs.Layout.{tabs, negation, for_words_text, pending, pipeline_pending, items_text, links_text, pipeline_text, commands_text, piped_text, command_text, kind_text, branches_text}
use Rattle.sh_print.specs.Lists.{links_from, commands_from, branches_from, item_text, branch_text, clause_text, words_from}
use Rattle.sh_print.specs.Trees.{pipeline_of, command_of, kind_of, word_of}
use Rattle.sh_print.proofs.TextLemmas.{after, branches_of_first, case_pushed, clauses_flat, command_parts, commands_of_first, define_pushed, first_rest, flat_done, for_pushed, joined, linked, linked_done, no_branches_text, no_commands_text, nothing, pipe_text, piped, piped_done, script_flat, thrice, whole}
use Rattle.sh_print.proofs.TreeLemmas.{kind_of-Simple, kind_of-Group, kind_of-Subshell, kind_of-if, kind_of-else, kind_of-Loop, kind_of-For, kind_of-Branches, kind_of-Define}
use Rattle.sh_print.proofs.commands.+print.Goals as goal

pub push_script-returns-clause-text : goal.push_script-returns-clause-text
push_script-returns-clause-text t c =
    let f = item_text c.args.depth c.args.script.now in
    flat_done f c.as_slice-items.result.now c.loop-item.item-index _ _ c.loop-item-test.false c.loop-item.invariant
    ∙ ap (λ t. c.args.out.now.items ++ t) (ap (flat_map f) c.as_slice-items.ensures ∙ sym (script_flat c.args.depth c.args.script.now c.args.list.now))

pub push_clauses-returns : goal.push_clauses-returns
push_clauses-returns t c =
    flat_done (clause_text c.args.depth c.args.script.now) c.args.clauses.now c.loop-clause.clause-index _ _ c.loop-clause-test.false c.loop-clause.invariant
    ∙ ap (λ t. c.args.out.now.items ++ t) (sym (clauses_flat c.args.depth c.args.script.now c.args.clauses.now))

pub push_command-returns : goal.push_command-returns
push_command-returns t c =
    whole c.push_redirects.result _ _ _ _ (command_parts c.args.depth c.args.script.now c.args.command.now)
    (after c.push_redirects.result _ _ _ _ _ c.in_ok-push_kind.ensures (rw c.as_slice.ensures at c.push_redirects.ensures))

pub push_branches-returns-in_default : goal.push_branches-returns-in_default
push_branches-returns-in_default t c = nothing _ _ (no_branches_text c.args.depth c.args.script.now c.args.branches.now c.in_default.len_below)

pub push_branches-returns : goal.push_branches-returns
push_branches-returns t c =
    let out = c.args.out.now.items in
    let s = c.args.script.now in
    let xs = c.args.branches.now in
    let x = c.first-item.result in
    let rest = take (length xs - 1) (drop 1 xs) in
    let f = branch_text c.args.depth (codes "elif") s in
    joined out c.push_branch.new.out.items c.loop-branch.out.items (branch_text c.args.depth (codes "if") s x) (flat_map f rest) c.in_ok-push_branch.ensures
    (flat_done f rest c.loop-branch.branch-index c.push_branch.new.out.items c.loop-branch.out.items c.loop-branch-test.false c.loop-branch.invariant)
    ∙ ap (λ t. out ++ t) (sym (ap (λ ys. branches_text c.args.depth (codes "if") (branches_from s ys)) (first_rest xs x c.in-len1-up.len_at_least c.first-item.is) ∙ branches_of_first c.args.depth s x rest))

pub push_item-loop-link-preserved : goal.push_item-loop-link-preserved
push_item-loop-link-preserved t c =
    let s = c.args.script.now in
    let item = c.args.item.now in
    let links = c.as_slice-links.result.now in
    let first = pipeline_of s (out-AndOr (out-Item item).list).first in
    linked c.args.depth s (pipeline_pending (pipeline_of s c.loop-link.before.now)) (out-Item item).background links c.loop-link.link-index c.loop-link-item.result
    c.loop-link.out.items c.push_text.new.out.items c.push_pipe_join.new.out.items c.push_pipe-in-loop-link.new.out.items
    (c.push_pipe.new.out.items ++ links_text c.args.depth (pipeline_pending first) (links_from s links) (out-Item item).background)
    c.loop-link-test.true c.loop-link-item.is c.loop-link.invariant (rw c.link_sign.ensures at c.in_ok-push_text.ensures) c.in_ok-push_pipe_join.ensures c.in_ok-push_pipe-2.ensures

pub push_item-returns : goal.push_item-returns
push_item-returns t c =
    let out = c.args.out.now.items in
    let s = c.args.script.now in
    let d = c.args.depth in
    let item = c.args.item.now in
    let background = (out-Item item).background in
    let links = c.as_slice-links.result.now in
    let first = pipeline_of s (out-AndOr (out-Item item).list).first in
    let rest = links_text d (pipeline_pending first) (links_from s links) background in
    let r = c.push_line_end.result in
    let new = c.push_line_end.new.out.items in
    whole r out new (tabs d ++ (pipeline_text d first ++ rest)) (item_text d s item)
    (ap (λ ls. tabs d ++ (pipeline_text d first ++ links_text d (pipeline_pending first) (links_from s ls) background)) (sym c.as_slice-links.ensures))
    (thrice r out c.push_tabs.new.out.items c.push_pipe.new.out.items new (tabs d) (pipeline_text d first) rest c.in_ok-push_tabs.ensures c.in_ok-push_pipe.ensures
    (linked_done r d s (pipeline_pending (pipeline_of s c.loop-link.before.now)) background links c.loop-link.link-index c.loop-link.out.items c.push_text-2.new.out.items new
    (c.push_pipe.new.out.items ++ rest) c.loop-link-test.false c.loop-link.invariant (rw c.background_sign.ensures at c.in_ok-push_text-2.ensures) c.push_line_end.ensures))

pub push_pipe-returns-in_default : goal.push_pipe-returns-in_default
push_pipe-returns-in_default t c =
    let out = c.args.out.now.items in
    let s = c.args.script.now in
    let d = c.args.depth in
    let pipe = c.args.pipe.now in
    let sign = negation (out-Pipe pipe).negated in
    let pushed : c.push_text.new.out.items ≡ out ++ sign = rw c.negation_sign.ensures at c.in_ok-push_text.ensures in
    pushed
    ∙ ap (λ t. out ++ t) (sym (pipe_text d s pipe ∙ ap (λ t. sign ++ t) (ap (λ ys. commands_text d (commands_from s ys)) (sym c.as_slice.ensures) ∙ no_commands_text d s c.as_slice.result.now c.in_default.len_below) ∙ append-nil sign))

pub push_pipe-loop-command-preserved : goal.push_pipe-loop-command-preserved
push_pipe-loop-command-preserved t c =
    let s = c.args.script.now in
    let cs = c.as_slice.result.now in
    let rest = take (length cs - 1) (drop 1 cs) in
    let first = command_of s c.first-item.result in
    piped c.args.depth s (pending (command_of s c.loop-command.before.now)) rest c.loop-command.command-index c.command-item.result
    c.loop-command.out.items c.push_text-in-loop-command.new.out.items c.push_join.new.out.items c.push_command-in-loop-command.new.out.items
    (c.push_command.new.out.items ++ piped_text c.args.depth (pending first) (commands_from s rest))
    c.loop-command-test.true c.command-item.is c.loop-command.invariant c.in_ok-push_text-2.ensures c.in_ok-push_join.ensures c.in_ok-push_command-2.ensures

pub push_pipe-returns : goal.push_pipe-returns
push_pipe-returns t c =
    let out = c.args.out.now.items in
    let s = c.args.script.now in
    let d = c.args.depth in
    let pipe = c.args.pipe.now in
    let cs = c.as_slice.result.now in
    let rest = take (length cs - 1) (drop 1 cs) in
    let x = c.first-item.result in
    let sign = negation (out-Pipe pipe).negated in
    let later = piped_text d (pending (command_of s x)) (commands_from s rest) in
    let mid = c.push_command.new.out.items in
    let new = c.loop-command.out.items in
    let pushed : c.push_text.new.out.items ≡ out ++ sign = rw c.negation_sign.ensures at c.in_ok-push_text.ensures in
    let last : new ≡ mid ++ later = piped_done d s (pending (command_of s c.loop-command.before.now)) rest c.loop-command.command-index new (mid ++ later) c.loop-command-test.false c.loop-command.invariant in
    joined out c.push_text.new.out.items new sign (command_text d (command_of s x) ++ later) pushed (joined c.push_text.new.out.items mid new (command_text d (command_of s x)) later c.in_ok-push_command.ensures last)
    ∙ ap (λ t. out ++ t) (
    sym (pipe_text d s pipe
    ∙ ap (λ t. sign ++ t) (ap (λ ys. commands_text d (commands_from s ys)) (sym c.as_slice.ensures ∙ first_rest cs x c.in-len1-up.len_at_least c.first-item.is) ∙ commands_of_first d s x rest))
    )

pub push_kind-returns-in-Simple : goal.push_kind-returns-in-Simple
unfolding items_text
push_kind-returns-in-Simple t c =
    whole c.push_elements.result _ _ _ _ (ap (kind_text c.args.depth) (ap (kind_of c.args.script.now) c.in-Simple.is ∙ kind_of-Simple c.args.script.now c.in-Simple.elements))
    (rw c.as_slice.ensures at c.push_elements.ensures)

pub push_kind-returns-in-Group : goal.push_kind-returns-in-Group
unfolding items_text
push_kind-returns-in-Group t c =
    whole c.push_closed.result _ _ _ _ (ap (kind_text c.args.depth) (ap (kind_of c.args.script.now) c.in-Group.is ∙ kind_of-Group c.args.script.now c.in-Group.list))
    c.push_closed.ensures

pub push_kind-returns-in-Subshell : goal.push_kind-returns-in-Subshell
unfolding items_text
push_kind-returns-in-Subshell t c =
    whole c.push_closed-in-Subshell.result _ _ _ _ (ap (kind_text c.args.depth) (ap (kind_of c.args.script.now) c.in-Subshell.is ∙ kind_of-Subshell c.args.script.now c.in-Subshell.list))
    c.push_closed-in-Subshell.ensures

pub push_kind-returns-in-None : goal.push_kind-returns-in-None
unfolding items_text
push_kind-returns-in-None t c =
    whole c.push_text.result _ _ _ _ (ap (kind_text c.args.depth) (ap (kind_of c.args.script.now) c.in-Cond.is ∙ ap (λ o. kind_of c.args.script.now (kind.Cond c.in-Cond.branches o)) c.in-None.is ∙ kind_of-if c.args.script.now c.in-Cond.branches))
    (after c.push_text.result _ _ _ _ _ (rw c.as_slice-in-Cond.ensures at c.in_ok-push_branches-in-Cond.ensures) c.push_text.ensures)

pub push_kind-returns-in-Some : goal.push_kind-returns-in-Some
unfolding items_text
push_kind-returns-in-Some t c =
    whole c.push_closed-in-Some.result _ _ _ _ (ap (kind_text c.args.depth) (ap (kind_of c.args.script.now) c.in-Cond.is ∙ ap (λ o. kind_of c.args.script.now (kind.Cond c.in-Cond.branches o)) c.in-Some.is ∙ kind_of-else c.args.script.now c.in-Cond.branches c.in-Some.list))
    (after c.push_closed-in-Some.result _ _ _ _ _ (rw c.as_slice-in-Cond.ensures at c.in_ok-push_branches-in-Cond.ensures)
    c.push_closed-in-Some.ensures)

pub push_kind-returns-in_ok-push_block-in-Loop : goal.push_kind-returns-in_ok-push_block-in-Loop
unfolding items_text
push_kind-returns-in_ok-push_block-in-Loop t c =
    whole c.push_closed-in-Loop.result _ _ _ _ (ap (kind_text c.args.depth) (ap (kind_of c.args.script.now) c.in-Loop.is ∙ kind_of-Loop c.args.script.now c.in-Loop.kind c.in-Loop.condition c.in-Loop.body))
    (after c.push_closed-in-Loop.result _ _ _ _ _ (rw c.loop_word.ensures at c.in_ok-push_block-in-Loop.ensures) c.push_closed-in-Loop.ensures)

pub push_kind-returns-in_ok-push_for-in-For : goal.push_kind-returns-in_ok-push_for-in-For
unfolding items_text
push_kind-returns-in_ok-push_for-in-For t c =
    let s = c.args.script.now in
    for_pushed c.push_closed-in-For.result c.args.depth _ _ _ (text_of s c.in-For.name) (for_words_text (words_from s c.in-For.words)) _
    (ap (kind_text c.args.depth) (ap (kind_of s) c.in-For.is ∙ kind_of-For s c.in-For.name c.in-For.words c.in-For.body)) c.in_ok-push_for-in-For.ensures c.push_closed-in-For.ensures

pub push_kind-returns-in_ok-push_clauses-in-Branches : goal.push_kind-returns-in_ok-push_clauses-in-Branches
unfolding items_text
push_kind-returns-in_ok-push_clauses-in-Branches t c =
    let s = c.args.script.now in
    case_pushed c.push_esac.result c.args.depth _ _ _ _ (word_of s c.in-Branches.word) _
    (ap (kind_text c.args.depth) (ap (kind_of s) c.in-Branches.is ∙ kind_of-Branches s c.in-Branches.word c.in-Branches.clauses)) c.in_ok-push_case-in-Branches.ensures
    (rw c.as_slice-in-Branches.ensures at c.in_ok-push_clauses-in-Branches.ensures) c.push_esac.ensures

pub push_kind-returns-in_ok-push_name-in-Define : goal.push_kind-returns-in_ok-push_name-in-Define
unfolding items_text
push_kind-returns-in_ok-push_name-in-Define t c =
    let s = c.args.script.now in
    define_pushed c.push_command.result c.args.depth _ _ _ (text_of s c.in-Define.name) _
    (ap (kind_text c.args.depth) (ap (kind_of s) c.in-Define.is ∙ kind_of-Define s c.in-Define.name c.in-Define.body)) c.in_ok-push_name-in-Define.ensures (rw c.get.ensures at c.push_command.ensures)
