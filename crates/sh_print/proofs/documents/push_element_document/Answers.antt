use Rattle.std.proofs.Common.{ap}
use Rattle.sh_print.specs.Layout.{element_documents}
use Rattle.sh_print.specs.Pending.{pending_text}
use Rattle.sh_print.specs.Trees.{element_of}
use Rattle.sh_print.proofs.TextLemmas.{nothing}
use Rattle.sh_print.proofs.documents.push_element_document.Goals as goal

pub returns-in-Assignment : goal.returns-in-Assignment
unfolding element_of
returns-in-Assignment c = nothing _ _ (ap (λ e. pending_text (element_documents (element_of c.args.script.now e))) c.in-Assignment.is)

pub returns-in-Word : goal.returns-in-Word
unfolding element_of
returns-in-Word c = nothing _ _ (ap (λ e. pending_text (element_documents (element_of c.args.script.now e))) c.in-Word.is)
