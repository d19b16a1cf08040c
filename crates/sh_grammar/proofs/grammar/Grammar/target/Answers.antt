use Rattle.std.proofs.Common.{◌≡◌, true, false, sym, ap, subst, ◌∙◌, arith}
use Rattle.std.proofs.lemmas.Result.{err_from_is_err_and}
use Rattle.sh_tree.specs.declared.token.command.Stage.TheVariants.{Named}
use Rattle.sh_tree.specs.standard.language.Commands.{is_word, lead_at}
use Rattle.sh_tree.specs.standard.language.Contexts.{in_unsplit}
use Rattle.sh_grammar.specs.Readers.{One, Refused, WordAt}
use Rattle.sh_grammar.specs.States.{here}
use Rattle.sh_grammar.specs.Targets.{TargetFrom}
use Rattle.sh_grammar.proofs.ReaderLemmas.{refused_none}
use Rattle.sh_grammar.proofs.RedirectLemmas.{target_none, target_refused, target_read, target_begins}
use Rattle.sh_grammar.proofs.grammar.Grammar.target.Goals as goal

pub returns-then-not-is_word-clause-reads : goal.returns-then-not-is_word-clause-reads
returns-then-not-is_word-clause-reads g c =
    let b = c.args.script.now in
    let s = c.args.from in
    let other = sym (c.is_word.ensures ∙ ap is_word c.lead.ensures.value) ∙ c.if-not-is_word.true in
    let none = subst (λ t. is_word (lead_at b (Named false) t.at) ≡ false) c.next_from-target.ensures.value other in
    refused_none b (TargetFrom b c.args.end s) c.unexpected_at.result c.unexpected_at.ensures.fault (target_none b c.args.end s none)

pub returns-in_err-word-clause-reads : goal.returns-in_err-word-clause-reads
returns-in_err-word-clause-reads g c =
    let b = c.args.script.now in
    let s = c.args.from in
    let p = err_from_is_err_and c.from_residual.result c.from_residual.ensures.1 in
    let none = subst (λ t. Refused b (WordAt b (in_unsplit t.at) t.at t) c.in_err-word.field-0.0) c.next_from-target.ensures.value c.in_err-word.ensures.reads in
    rw (p.1, p.2) (target_refused b c.args.end s _ none)

pub returns-clause-reads : goal.returns-clause-reads
returns-clause-reads g c =
    let b = c.args.script.now in
    let s = c.args.from in
    let found = c.in_ok-word in
    let some = sym (c.is_word.ensures ∙ ap is_word c.lead.ensures.value) ∙ c.if-not-is_word.false in
    let word = subst (λ t. is_word (lead_at b (Named false) t.at) ≡ true) c.next_from-target.ensures.value some in
    let one = subst (λ t. One (WordAt b (in_unsplit t.at) t.at t) (here found.behind) found.word) c.next_from-target.ensures.value found.ensures.reads.one in
    let after = c.next_from-target.ensures.after in
    let further = found.ensures.reads.from in
    record {
      one = target_read b c.args.end s found.word found.behind word one;
      from = omega arith;
      stands = found.ensures.reads.stands;
    }

pub returns-clause-begins : goal.returns-clause-begins
returns-clause-begins g c =
    let b = c.args.script.now in
    let s = c.args.from in
    let found = c.in_ok-word in
    let some = sym (c.is_word.ensures ∙ ap is_word c.lead.ensures.value) ∙ c.if-not-is_word.false in
    let word = subst (λ t. is_word (lead_at b (Named false) t.at) ≡ true) c.next_from-target.ensures.value some in
    let one = subst (λ t. One (WordAt b (in_unsplit t.at) t.at t) (here found.behind) found.word) c.next_from-target.ensures.value found.ensures.reads.one in
    target_begins b c.args.end s found.word (here found.behind) 64 (target_read b c.args.end s found.word found.behind word one).reads
