use Rattle.std.proofs.Common.{◌≡◌, rules, sym, subst}
use Rattle.sh_grammar.specs.declared.state.State.{State}
use Rattle.sh_grammar.specs.States.{Lies}
use Rattle.sh_grammar.proofs.StateLemmas.{lies_at}
use Rattle.sh_grammar.proofs.state.Cursor.next_from.Goals as goal

pub settled-requires-clause-lies : goal.settled-requires-clause-lies
settled-requires-clause-lies c =
    let b = c.args.script.now in
    let same : c.as_mut.result.now ≡ c.args.self = search rules in
    subst (λ (s : State). Lies b (record s { at = c.args.at })) (sym same) (lies_at b c.args.at c.args.self c.requires.ordered c.requires.inside c.requires.stands)
