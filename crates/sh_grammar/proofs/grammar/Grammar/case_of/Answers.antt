use Rattle.std.proofs.Common.{subst, arith}
use Rattle.std.proofs.lemmas.Result.{err_from_is_err_and}
use Rattle.sh_tree.specs.declared.token.command.Lead.TheVariants as lead
use Rattle.sh_tree.specs.declared.token.command.Reserved.TheVariants as reserved
use Rattle.sh_grammar.specs.Breaks.{BreaksFrom, BreaksTo}
use Rattle.sh_grammar.specs.Cases.{UnsplitFrom}
use Rattle.sh_grammar.specs.Readers.{One, Refused, CompoundFrom}
use Rattle.sh_grammar.specs.States.{here}
use Rattle.sh_grammar.proofs.CaseLemmas.{case_stopped, case_none, case_in_stopped, case_refused, case_read}
use Rattle.sh_grammar.proofs.ReaderLemmas.{refused_none}
use Rattle.sh_grammar.proofs.StateLemmas.{at_depth_stands}
use Rattle.sh_grammar.proofs.grammar.Grammar.case_of.Goals as goal

pub returns-in_err-wanted : goal.returns-in_err-wanted
returns-in_err-wanted g c =
    let b = c.args.script.now in
    let s = c.args.from in
    let word = c.in_ok-word in
    let one = subst (λ v. One (UnsplitFrom b v) (here word.behind) word.word) c.enter.ensures.value word.ensures.one in
    let residual = c.from_residual-in_err-wanted in
    let p = err_from_is_err_and residual.result residual.ensures.1 in
    rw (p.1, p.2) (case_stopped b s word.word word.behind one _ c.in_err-wanted.ensures)

pub returns-in_err-inside : goal.returns-in_err-inside
returns-in_err-inside g c =
    let b = c.args.script.now in
    let s = c.args.from in
    let word = c.in_ok-word in
    let one = subst (λ v. One (UnsplitFrom b v) (here word.behind) word.word) c.enter.ensures.value word.ensures.one in
    let residual = c.from_residual-in_err-inside in
    let p = err_from_is_err_and residual.result residual.ensures.1 in
    let wanted = c.in_ok-wanted in
    let told = c.in_err-inside.ensures in
    rw (p.1, p.2) (refused_none b (CompoundFrom b (lead.Reserved reserved.Case) s) _ told.0 (case_none b s word.word word.behind one wanted.wanted wanted.ensures told.1))

pub returns-in_err-first : goal.returns-in_err-first
returns-in_err-first g c =
    let b = c.args.script.now in
    let s = c.args.from in
    let word = c.in_ok-word in
    let one = subst (λ v. One (UnsplitFrom b v) (here word.behind) word.word) c.enter.ensures.value word.ensures.one in
    let residual = c.from_residual-in_err-first in
    let p = err_from_is_err_and residual.result residual.ensures.1 in
    let wanted = c.in_ok-wanted in
    let none = subst (λ v. Refused b (BreaksFrom b v) c.in_err-first.field-0.0) c.in_ok-inside.ensures.1 c.in_err-first.ensures in
    rw (p.1, p.2) (case_in_stopped b s word.word word.behind one wanted.wanted wanted.ensures _ none)

pub returns-in_err-clauses : goal.returns-in_err-clauses
returns-in_err-clauses g c =
    let b = c.args.script.now in
    let s = c.args.from in
    let word = c.in_ok-word in
    let one = subst (λ v. One (UnsplitFrom b v) (here word.behind) word.word) c.enter.ensures.value word.ensures.one in
    let residual = c.from_residual-in_err-clauses in
    let p = err_from_is_err_and residual.result residual.ensures.1 in
    let wanted = c.in_ok-wanted in
    let second = subst (λ v. BreaksTo b v c.in_ok-first.first) c.in_ok-inside.ensures.1 c.in_ok-first.ensures in
    rw (p.1, p.2) (case_refused b s word.word word.behind one wanted.wanted wanted.ensures c.in_ok-first.first second _ c.in_err-clauses.ensures)

pub returns : goal.returns
returns g c =
    let b = c.args.script.now in
    let s = c.args.from in
    let word = c.in_ok-word in
    let one = subst (λ v. One (UnsplitFrom b v) (here word.behind) word.word) c.enter.ensures.value word.ensures.one in
    let wanted = c.in_ok-wanted in
    let inside = c.in_ok-inside.ensures in
    let second = subst (λ v. BreaksTo b v c.in_ok-first.first) inside.1 c.in_ok-first.ensures in
    let found = c.in_ok-clauses in
    let further = c.enter.ensures.further in
    let word_from = word.ensures.from in
    let wanted_from = wanted.ensures.from in
    let inside_from = inside.2 in
    let first_from = c.in_ok-first.ensures.from in
    let after = found.ensures.from in
    rw (c.at_depth.ensures, c.depth-depth.ensures) (record {
      one = case_read b s word.word word.behind one wanted.wanted wanted.ensures c.in_ok-first.first second c.requires.shallow inside.0 found.clauses found.end
          found.ensures.one;
      from = omega arith;
      stands = at_depth_stands b s.depth found.end c.requires.stands.shallow found.ensures.stands;
    })
