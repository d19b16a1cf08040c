use Rattle.std.proofs.Common.{[], ◌∷◌, ◌++◌, ap, ◌∙◌}
use Rattle.std.proofs.lemmas.List.{append-nil}
use Rattle.sh_tree.specs.standard.Tree.{text_of}
use Rattle.sh_print.specs.Layout.{documents_in}
use Rattle.sh_print.specs.Pending.{pending_text}
use Rattle.sh_print.specs.Trees.{opens_of, word_of}
use Rattle.sh_print.proofs.TextLemmas.{nothing, thrice, whole}
use Rattle.sh_print.proofs.documents.push_document.Goals as goal

pub returns-in-File : goal.returns-in-File
unfolding opens_of
returns-in-File c = nothing _ _ (ap (λ t. pending_text (documents_in (opens_of c.args.script.now t))) c.in-File.is)

pub returns-in_ok-push_word-in-Here : goal.returns-in_ok-push_word-in-Here
unfolding opens_of
returns-in_ok-push_word-in-Here c =
    let s = c.args.script.now in
    whole c.push_span.result _ _ _ _
    (ap (λ t. pending_text (documents_in (opens_of s t))) c.in-Here.is ∙ append-nil (10 ∷ (word_of s c.in-Here.here.body ++ text_of s c.in-Here.here.end)))
    (thrice c.push_span.result c.args.out.now.items c.push_text.new.out.items c.push_word.new.out.items c.push_span.new.out.items (10 ∷ []) (word_of s c.in-Here.here.body) (text_of s c.in-Here.here.end)
    c.in_ok-push_text-in-Here.ensures c.in_ok-push_word-in-Here.ensures c.push_span.ensures)
