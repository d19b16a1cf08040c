use Rattle.std.proofs.Common.{◌∙◌, sym, subst, arith}
use Rattle.std.proofs.lemmas.Result.{err_from_is_err_and}
use Rattle.sh_grammar.specs.Branches.{OtherwiseFrom}
use Rattle.sh_grammar.proofs.BranchLemmas.{fi_none, else_read}
use Rattle.sh_grammar.proofs.ReaderLemmas.{refused_none}
use Rattle.sh_tree.specs.declared.token.command.Reserved.TheVariants as word
use Rattle.sh_grammar.specs.Phrases.{ListBefore}
use Rattle.sh_grammar.specs.Readers.{One}
use Rattle.sh_grammar.specs.States.{here}
use Rattle.sh_grammar.proofs.grammar.Grammar.otherwise.Goals as goal

pub returns-in_err-end : goal.returns-in_err-end
returns-in_err-end g c =
    let residual = c.from_residual-in_err-end in
    let p = err_from_is_err_and residual.result residual.ensures.1 in
    let b = c.args.script.now in
    let none = fi_none b c.args.from c.requires.last (λ other. c.is_same.ensures.no c.if-is_same.false (c.lead-lead.ensures.value ∙ other)) c.in_err-end.ensures.1 in
    rw (p.1, p.2) (refused_none b (OtherwiseFrom b c.args.from) _ c.in_err-end.ensures.0 none)

pub returns-then-is_same : goal.returns-then-is_same
returns-then-is_same g c =
    let found = c.in_ok-list in
    let further = c.skip-first.ensures.further in
    let after = found.ensures.from in
    record {
      one = else_read c.args.script.now c.args.from (sym c.lead-lead.ensures.value ∙ c.is_same.ensures.yes c.if-is_same.true) found.list found.end
          (subst (λ s. One (ListBefore c.args.script.now word.Fi s) (here found.end) found.list) c.skip-first.ensures.value found.ensures.one);
      from = omega arith;
      stands = found.ensures.stands;
    }
