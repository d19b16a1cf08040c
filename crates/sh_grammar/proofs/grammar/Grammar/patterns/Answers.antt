use Rattle.std.proofs.Common.{◌∙◌, [], ◌∷◌, ◌++◌, sym, subst, arith}
use Rattle.sh_grammar.specs.Cases.{PatternsFrom}
use Rattle.sh_grammar.proofs.CaseLemmas.{patterns_wrong, patterns_last}
use Rattle.sh_grammar.proofs.ReaderLemmas.{refused_none}
use Rattle.sh_grammar.specs.Readers.{One}
use Rattle.sh_grammar.specs.States.{here}
use Rattle.sh_grammar.proofs.grammar.Grammar.patterns.Goals as goal

pub returns-then-not-is_same : goal.returns-then-not-is_same
returns-then-not-is_same g c =
    let at = c.loop-found in
    let b = c.args.script.now in
    let word = c.in_ok-word in
    let lead = c.lead-lead.ensures.value in
    refused_none b (PatternsFrom b c.args.from) c.unexpected_at.result c.unexpected_at.ensures.fault
    (patterns_wrong b c.args.from at.next at.found at.invariant.found word.word word.behind word.ensures.one (λ close. c.is_same.ensures.no c.if-is_same.false (lead ∙ close))
    (λ bar. c.is_same-in-loop-found.ensures.no c.if-not-is_same.true (lead ∙ bar)))

pub returns-then-is_same : goal.returns-then-is_same
returns-then-is_same g c =
    let at = c.loop-found in
    let b = c.args.script.now in
    let word = c.in_ok-word in
    let close = sym c.lead-lead.ensures.value ∙ c.is_same.ensures.yes c.if-is_same.true in
    let one = patterns_last b c.args.from at.next at.found at.invariant.found word.word word.behind word.ensures.one close in
    let from = at.invariant.from in
    let further = word.ensures.from in
    let after = c.next.ensures.after in
    record {
      one = rw c.in_ok-push.ensures.ok (subst (λ v. One (PatternsFrom b c.args.from) (here v) (at.found ++ word.word ∷ [])) (sym c.next.ensures.value) one);
      from = omega arith;
      stands = c.next.ensures.stands;
    }
