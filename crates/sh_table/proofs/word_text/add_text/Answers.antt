use Rattle.std.proofs.Common.{ap, ◌∙◌}
use Rattle.sh_table.specs.WordTexts as spec
use Rattle.sh_table.proofs.WordTextLemmas.{no_text, text_pushed, texts_of-Assignment, texts_of-Word, texts_of-Redirection}
use Rattle.sh_table.proofs.word_text.add_text.Goals as goal

pub returns-in-Assignment : goal.returns-in-Assignment
returns-in-Assignment c = no_text _ _ (ap (spec.texts_of c.args.script.now) c.in-Assignment.is ∙ texts_of-Assignment c.args.script.now _ _)

pub returns-in-Redirection : goal.returns-in-Redirection
returns-in-Redirection c = no_text _ _ (ap (spec.texts_of c.args.script.now) c.in-Redirection.is ∙ texts_of-Redirection c.args.script.now _)

pub returns-in_ok-push-in-Word : goal.returns-in_ok-push-in-Word
returns-in_ok-push-in-Word c =
    text_pushed c.args.script.now _ _ _ _ _ c.in_ok-push-in-Word.ensures.items c.in_ok-new-in-Word.ensures
    (ap (spec.texts_of c.args.script.now) c.in-Word.is ∙ texts_of-Word c.args.script.now c.in-Word.word)
