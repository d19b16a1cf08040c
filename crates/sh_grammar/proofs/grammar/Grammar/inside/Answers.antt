use Rattle.std.proofs.Common.{sym, ap, subst, ◌∙◌}
use Rattle.sh_grammar.specs.declared.state.State.{State}
use Rattle.sh_grammar.specs.Readers.{SequenceFrom, To}
use Rattle.sh_grammar.proofs.StateLemmas.{ticks_to}
use Rattle.sh_grammar.proofs.grammar.Grammar.inside.Goals as goal

pub returns-clause-reads : goal.returns-clause-reads
returns-clause-reads g c =
    let b = c.args.script.now in
    let s = c.args.from in
    let found = c.in_ok-commands in
    subst (λ v. To b (SequenceFrom b s) s.at found.commands v) (sym c.with_ticks.ensures) (ticks_to b (SequenceFrom b s) s.at found.commands found.behind _ found.ensures)

pub returns-clause-around : goal.returns-clause-around
returns-clause-around g c = ap (λ (v : State). v.ticks) c.with_ticks.ensures ∙ ap (λ (v : State). v.ticks) c.get.ensures
