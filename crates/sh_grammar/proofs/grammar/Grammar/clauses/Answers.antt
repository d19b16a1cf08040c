use Rattle.std.proofs.Common.{◌≡◌, [], ◌∷◌, ◌++◌, sym, ap, subst, ◌∙◌, arith}
use Rattle.std.proofs.lemmas.Result.{err_from_is_err_and}
use Rattle.sh_tree.specs.declared.token.command.Stage.TheVariants.{First}
use Rattle.sh_tree.specs.declared.token.command.Lead.TheVariants as lead
use Rattle.sh_tree.specs.declared.token.command.Reserved.TheVariants as word
use Rattle.sh_tree.specs.declared.tree.ClauseEnd.TheVariants.{Break}
use Rattle.sh_tree.specs.standard.language.Commands.{lead_at, clause_end_of}
use Rattle.sh_tree.specs.standard.language.Trees as tree
use Rattle.sh_grammar.specs.Breaks.{BreaksTo, BreaksFrom}
use Rattle.sh_grammar.specs.Cases.{ClausesFrom}
use Rattle.sh_grammar.specs.Readers.{One, Refused}
use Rattle.sh_grammar.specs.States.{here}
use Rattle.sh_grammar.proofs.CaseLemmas.{clauses_refused, clauses_wrong, clauses_last, clauses_more, clauses_all, clauses_stopped}
use Rattle.sh_grammar.proofs.ReaderLemmas.{refused_none}
use Rattle.sh_grammar.proofs.grammar.Grammar.clauses.Goals as goal

pub returns-in_err-last : goal.returns-in_err-last
returns-in_err-last g c =
    let at = c.loop-next in
    let b = c.args.script.now in
    let clause = c.in_ok-patterns in
    let residual = c.from_residual-in_err-last in
    let p = err_from_is_err_and residual.result residual.ensures.1 in
    let some : lead_at b First at.next.at ≡ lead.Reserved word.Esac → ⊥ = λ esac. c.is_same.ensures.no c.loop-next-test.true (c.lead.ensures.value ∙ esac) in
    let none = sym (c.in_default.ensures ∙ ap clause_end_of c.lead-in-loop-next.ensures.value) in
    rw (p.1, p.2) (refused_none b (ClausesFrom b c.args.from) _ c.in_err-last.ensures.0 (clauses_wrong b c.args.from at.next at.clauses at.invariant.found some clause.patterns clause.body
    clause.behind clause.ensures.one none c.in_err-last.ensures.1))

pub returns-in_err-patterns : goal.returns-in_err-patterns
returns-in_err-patterns g c =
    let at = c.loop-next in
    let b = c.args.script.now in
    let p = err_from_is_err_and c.from_residual.result c.from_residual.ensures.1 in
    let some : lead_at b First at.next.at ≡ lead.Reserved word.Esac → ⊥ = λ esac. c.is_same.ensures.no c.loop-next-test.true (c.lead.ensures.value ∙ esac) in
    rw (p.1, p.2) (clauses_refused b c.args.from at.next at.clauses at.invariant.found some _ c.in_err-patterns.ensures)

pub returns-in_default : goal.returns-in_default
returns-in_default g c =
    let at = c.loop-next in
    let b = c.args.script.now in
    let clause = c.in_ok-patterns in
    let last = c.in_ok-last in
    let some : lead_at b First at.next.at ≡ lead.Reserved word.Esac → ⊥ = λ esac. c.is_same.ensures.no c.loop-next-test.true (c.lead.ensures.value ∙ esac) in
    let none = sym (c.in_default.ensures ∙ ap clause_end_of c.lead-in-loop-next.ensures.value) in
    let one = clauses_last b c.args.from at.next at.clauses at.invariant.found some clause.patterns clause.body clause.behind clause.ensures.one none last.ensures.0 in
    let from = at.invariant.from in
    let further = clause.ensures.from in
    let behind = last.ensures.2 in
    record {
      one = rw c.in_ok-push.ensures.ok (subst (λ v. One (ClausesFrom b c.args.from) (here v) (at.clauses ++ tree.clause clause.patterns clause.body Break ∷ [])) (sym last.ensures.1) one);
      from = omega arith;
      stands = last.ensures.3;
    }

pub loop-next-preserved : goal.loop-next-preserved
loop-next-preserved g c =
    let at = c.loop-next in
    let b = c.args.script.now in
    let clause = c.in_ok-patterns in
    let some : lead_at b First at.next.at ≡ lead.Reserved word.Esac → ⊥ = λ esac. c.is_same.ensures.no c.loop-next-test.true (c.lead.ensures.value ∙ esac) in
    let ends = sym (c.in-Some.ensures ∙ ap clause_end_of c.lead-in-loop-next.ensures.value) in
    let breaks = subst (λ v. BreaksTo b v c.in_ok-next.next) c.next.ensures.value c.in_ok-next.ensures in
    let from = at.invariant.from in
    let further = clause.ensures.from in
    let after = c.next.ensures.after in
    let behind = c.in_ok-next.ensures.from in
    record {
      found = rw c.in_ok-push-2.ensures.ok (clauses_more b c.args.from at.next at.clauses at.invariant.found some clause.patterns clause.body clause.behind clause.ensures.one
          c.in-Some.end ends c.in_ok-next.next breaks);
      from = omega arith;
      stands = c.in_ok-next.ensures.stands;
    }

pub returns-in_err-next : goal.returns-in_err-next
returns-in_err-next g c =
    let at = c.loop-next in
    let b = c.args.script.now in
    let clause = c.in_ok-patterns in
    let residual = c.from_residual-in_err-next in
    let p = err_from_is_err_and residual.result residual.ensures.1 in
    let some : lead_at b First at.next.at ≡ lead.Reserved word.Esac → ⊥ = λ esac. c.is_same.ensures.no c.loop-next-test.true (c.lead.ensures.value ∙ esac) in
    let ends = sym (c.in-Some.ensures ∙ ap clause_end_of c.lead-in-loop-next.ensures.value) in
    let none = subst (λ v. Refused b (BreaksFrom b v) c.in_err-next.field-0.0) c.next.ensures.value c.in_err-next.ensures in
    rw (p.1, p.2) (clauses_stopped b c.args.from at.next at.clauses at.invariant.found some clause.patterns clause.body clause.behind clause.ensures.one c.in-Some.end ends _ none)

pub returns : goal.returns
returns g c =
    let at = c.loop-next in
    let b = c.args.script.now in
    let is = sym c.lead.ensures.value ∙ c.is_same.ensures.yes c.loop-next-test.false in
    let one = clauses_all b c.args.from at.next at.clauses at.invariant.found is in
    let from = at.invariant.from in
    let further = c.skip.ensures.further in
    record {
      one = subst (λ v. One (ClausesFrom b c.args.from) (here v) at.clauses) (sym c.skip.ensures.value) one;
      from = omega arith;
      stands = c.skip.ensures.stands;
    }
