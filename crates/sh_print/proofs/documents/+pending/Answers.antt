use Rattle.std.proofs.Common.{ap, ◌∙◌}
use Rattle.sh_print.specs.Layout.{pending, kind_pending}
use Rattle.sh_print.specs.Pending.{pending_text}
use Rattle.sh_print.specs.Trees.{script_of, kind_of}
use Rattle.sh_print.proofs.TextLemmas.{after, nothing, pending_parts, whole}
use Rattle.sh_print.proofs.TreeLemmas.{kind_of-Simple, kind_of-Define}
use Rattle.sh_print.proofs.documents.+pending.Goals as goal

pub push_pending-returns : goal.push_pending-returns
push_pending-returns t c =
    whole c.push_redirect_documents.result _ _ _ _ (pending_parts c.args.script.now c.args.command.now)
    (after c.push_redirect_documents.result _ _ _ _ _ c.in_ok-push_kind_pending.ensures (rw c.as_slice.ensures at c.push_redirect_documents.ensures))

pub push_kind_pending-returns-in-Simple : goal.push_kind_pending-returns-in-Simple
unfolding pending
push_kind_pending-returns-in-Simple t c =
    whole c.push_element_documents.result _ _ _ _ (ap (λ k. pending_text (kind_pending k)) (ap (kind_of c.args.script.now) c.in-Simple.is ∙ kind_of-Simple c.args.script.now c.in-Simple.elements))
    (rw c.as_slice.ensures at c.push_element_documents.ensures)

pub push_kind_pending-returns-in-Define : goal.push_kind_pending-returns-in-Define
unfolding pending
push_kind_pending-returns-in-Define t c =
    whole c.push_pending.result _ _ _ _
    (ap (λ k. pending_text (kind_pending k)) (ap (kind_of c.args.script.now) c.in-Define.is ∙ kind_of-Define c.args.script.now c.in-Define.name c.in-Define.body))
    (rw c.get.ensures at c.push_pending.ensures)

pub push_kind_pending-returns-in-Group : goal.push_kind_pending-returns-in-Group
unfolding pending script_of
push_kind_pending-returns-in-Group t c = nothing _ _ (ap (λ k. pending_text (kind_pending (kind_of c.args.script.now k))) c.in-Group.is)

pub push_kind_pending-returns-in-Subshell : goal.push_kind_pending-returns-in-Subshell
unfolding pending script_of
push_kind_pending-returns-in-Subshell t c = nothing _ _ (ap (λ k. pending_text (kind_pending (kind_of c.args.script.now k))) c.in-Subshell.is)

pub push_kind_pending-returns-in-Cond : goal.push_kind_pending-returns-in-Cond
unfolding pending script_of
push_kind_pending-returns-in-Cond t c = nothing _ _ (ap (λ k. pending_text (kind_pending (kind_of c.args.script.now k))) c.in-Cond.is)

pub push_kind_pending-returns-in-Loop : goal.push_kind_pending-returns-in-Loop
unfolding pending script_of
push_kind_pending-returns-in-Loop t c = nothing _ _ (ap (λ k. pending_text (kind_pending (kind_of c.args.script.now k))) c.in-Loop.is)

pub push_kind_pending-returns-in-For : goal.push_kind_pending-returns-in-For
unfolding pending script_of
push_kind_pending-returns-in-For t c = nothing _ _ (ap (λ k. pending_text (kind_pending (kind_of c.args.script.now k))) c.in-For.is)

pub push_kind_pending-returns-in-Branches : goal.push_kind_pending-returns-in-Branches
unfolding pending script_of
push_kind_pending-returns-in-Branches t c = nothing _ _ (ap (λ k. pending_text (kind_pending (kind_of c.args.script.now k))) c.in-Branches.is)
