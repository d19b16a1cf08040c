use Rattle.std.proofs.Common.{◌++◌, ap, sym, ◌∙◌, Bor, map}
use Rattle.std.proofs.lemmas.List.{map-append}
use Rattle.sh_tree.specs.declared.tree.Word.{Word}
use Rattle.sh_domain.specs.SightWalks.{listed_word}
use Rattle.sh_domain.proofs.SightLemmas.{nothing_added, listed_word-Assignment, listed_word-Word, listed_word-Redirection}
use Rattle.sh_domain.proofs.sights.add_word_of.Goals as goal

pub returns-in_ok-push-in-Word : goal.returns-in_ok-push-in-Word
returns-in_ok-push-in-Word c =
    ap (map (λ (w : Bor Word). w.now)) c.in_ok-push-in-Word.ensures.items ∙ map-append (λ (w : Bor Word). w.now) c.args.words.now.items _
    ∙ ap (λ ws. map (λ (w : Bor Word). w.now) c.args.words.now.items ++ ws) (sym (ap listed_word c.in-Word.is ∙ listed_word-Word c.in-Word.word))

pub returns-in-Assignment : goal.returns-in-Assignment
returns-in-Assignment c = nothing_added _ _ (ap listed_word c.in-Assignment.is ∙ listed_word-Assignment _ _)

pub returns-in-Redirection : goal.returns-in-Redirection
returns-in-Redirection c = nothing_added _ _ (ap listed_word c.in-Redirection.is ∙ listed_word-Redirection _)
