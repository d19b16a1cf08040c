use Rattle.std.proofs.Common.{sym, ap, subst, ◌∙◌, arith}
use Rattle.std.proofs.lemmas.Result.{err_from_is_err_and}
use Rattle.sh_tree.specs.standard.language.Commands.{is_redirection, name_end}
use Rattle.sh_tree.specs.standard.language.Reading as reading
use Rattle.sh_grammar.specs.Modes.{Begins}
use Rattle.sh_grammar.specs.Readers.{One, Refused, WordAt}
use Rattle.sh_grammar.specs.States.{here}
use Rattle.sh_grammar.proofs.ElementLemmas.{begins_word, element_assignment, element_assignment_none, element_word, element_word_none, element_redirect, element_redirect_none, rest_redirects}
use Rattle.sh_grammar.proofs.grammar.Grammar.element_at.Goals as goal

pub returns-in_err-value-in-Assignment : goal.returns-in_err-value-in-Assignment
returns-in_err-value-in-Assignment g c =
    let b = c.args.script.now in
    let is = sym c.in-Assignment.is ∙ c.requires.is in
    let name = c.name_at-equals in
    let p = err_from_is_err_and c.from_residual.result c.from_residual.ensures.1 in
    rw (p.1, p.2) (element_assignment_none b c.args.stage c.args.from is name.result (name.ensures.value ∙ ap (name_end b) c.at-at.ensures) _ c.in_err-value-in-Assignment.ensures.reads)

pub returns-in_ok-value-in-Assignment : goal.returns-in_ok-value-in-Assignment
returns-in_ok-value-in-Assignment g c =
    let b = c.args.script.now in
    let is = sym c.in-Assignment.is ∙ c.requires.is in
    let name = c.name_at-equals in
    let found = c.in_ok-value-in-Assignment in
    let reads = found.ensures.reads in
    let further = reads.from in
    let after = name.ensures.after in
    let same = c.at-at.ensures in
    record {
      steps = rw same (element_assignment b c.args.stage c.args.from is name.result (name.ensures.value ∙ ap (name_end b) same) found.value found.behind reads.one);
      from = omega arith;
      stands = reads.stands;
    }

pub returns-in_err-word-in-Word : goal.returns-in_err-word-in-Word
returns-in_err-word-in-Word g c =
    let b = c.args.script.now in
    let s = c.args.from in
    let is = sym c.in-Word.is ∙ c.requires.is in
    let residual = c.from_residual-in_err-word-in-Word in
    let p = err_from_is_err_and residual.result residual.ensures.1 in
    rw (p.1, p.2) (element_word_none b c.args.stage s is _
    (subst (λ x. Refused b (WordAt b x s.at s) c.in_err-word-in-Word.field-0.0) (c.mode_of.ensures.value b s.at) c.in_err-word-in-Word.ensures.reads))

pub returns-in_ok-word-in-Word : goal.returns-in_ok-word-in-Word
returns-in_ok-word-in-Word g c =
    let b = c.args.script.now in
    let s = c.args.from in
    let is = sym c.in-Word.is ∙ c.requires.is in
    let found = c.in_ok-word-in-Word in
    let mode = c.mode_of.ensures.value b s.at in
    let one = subst (λ x. One (WordAt b x s.at s) (here found.behind) found.word) mode found.ensures.reads.one in
    let stage = c.stage_behind in
    record {
      steps = element_word b c.args.stage s is found.word found.behind stage.result (stage.ensures ∙ ap (reading.stage_behind b c.args.stage) c.at-at.ensures) one;
      from = found.ensures.moves (subst (λ x. Begins b x s.at s) (sym mode) (begins_word b c.args.stage s is c.requires.stands));
      stands = found.ensures.reads.stands;
    }

pub returns-in_err-redirect-in_default : goal.returns-in_err-redirect-in_default
returns-in_err-redirect-in_default g c =
    let is = ap is_redirection (sym c.requires.is) ∙ rest_redirects c.args.lead c.requires.begins c.in_default.not-Word c.in_default.not-Assignment in
    let residual = c.from_residual-in_err-redirect-in_default in
    let p = err_from_is_err_and residual.result residual.ensures.1 in
    rw (p.1, p.2) (element_redirect_none c.args.script.now c.args.stage c.args.from is _ c.in_err-redirect-in_default.ensures)

pub returns-in_ok-redirect-in_default : goal.returns-in_ok-redirect-in_default
returns-in_ok-redirect-in_default g c =
    let found = c.in_ok-redirect-in_default in
    let is = ap is_redirection (sym c.requires.is) ∙ rest_redirects c.args.lead c.requires.begins c.in_default.not-Word c.in_default.not-Assignment in
    let further = found.ensures.from in
    record {
      steps = element_redirect c.args.script.now c.args.stage c.args.from is found.redirect found.behind c.redirected.result c.redirected.ensures found.ensures.one;
      from = omega arith;
      stands = found.ensures.stands;
    }
