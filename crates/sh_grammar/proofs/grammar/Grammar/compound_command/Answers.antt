use Rattle.std.proofs.Common.{◌≤◌, ◌+◌, ap, subst, sym, ◌∙◌, arith}
use Rattle.sh_tree.specs.standard.language.Commands.{begins_compound}
use Rattle.sh_grammar.specs.declared.state.State.{State}
use Rattle.sh_grammar.specs.Readers.{Answers, One, CompoundFrom}
use Rattle.sh_grammar.specs.Redirected.{RedirectedFrom}
use Rattle.sh_grammar.specs.States.{here}
use Rattle.sh_grammar.proofs.CommandLemmas.{compound_with, redirected_answers}
use Rattle.sh_grammar.proofs.grammar.Grammar.compound_command.Goals as goal

pub returns : goal.returns
returns g c =
    let b = c.args.script.now in
    let s = c.args.from in
    let some = ap begins_compound (sym c.requires.token) ∙ c.requires.begins in
    let found = c.in_ok-kind in
    let u = found.behind in
    let one = compound_with b s c.args.lead c.requires.token found.kind u (subst (λ v. One (CompoundFrom b c.args.lead v) (here u) found.kind) c.counted.ensures found.ensures.one) in
    let same = ap (λ (v : State). v.at) c.counted.ensures in
    let from = found.ensures.from in
    let further : s.at + 1 ≤ u.at = omega arith in
    let numbered = subst (λ n. Answers b (RedirectedFrom b (n + 1) c.at-at.result found.kind u) u.at c.redirected.result) c.count-count.ensures c.redirected.ensures in
    let placed = subst (λ i. Answers b (RedirectedFrom b (s.count + 1) i found.kind u) u.at c.redirected.result) c.at-at.ensures numbered in
    redirected_answers b s some found.kind u one c.redirected.result further placed
