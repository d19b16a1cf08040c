use Rattle.std.proofs.Common.{[], ◌∷◌, ap}
use Rattle.sh_tree.specs.standard.Tree.{text_of}
use Rattle.sh_print.specs.Layout.{element_text}
use Rattle.sh_print.specs.Trees.{element_of, word_of}
use Rattle.sh_print.proofs.TextLemmas.{thrice, whole}
use Rattle.sh_print.proofs.redirections.push_element.Goals as goal

pub returns-in_ok-push_text-in-Assignment : goal.returns-in_ok-push_text-in-Assignment
unfolding element_of
returns-in_ok-push_text-in-Assignment c =
    whole c.push_word.result _ _ _ _ (ap (λ e. element_text (element_of c.args.script.now e)) c.in-Assignment.is)
    (thrice c.push_word.result c.args.out.now.items c.push_span.new.out.items c.push_text.new.out.items c.push_word.new.out.items (text_of c.args.script.now c.in-Assignment.name) (61 ∷ [])
    (word_of c.args.script.now c.in-Assignment.value) c.in_ok-push_span-in-Assignment.ensures c.in_ok-push_text-in-Assignment.ensures c.push_word.ensures)
