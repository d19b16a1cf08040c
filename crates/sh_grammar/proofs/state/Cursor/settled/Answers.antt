use Rattle.std.proofs.Common.{◌≡◌, ◌≤◌, true, rules, sym, subst}
use Rattle.sh_tree.specs.standard.language.Commands.{blanks}
use Rattle.sh_grammar.specs.declared.state.State.{State}
use Rattle.sh_grammar.specs.States.{Stands}
use Rattle.sh_grammar.proofs.BreakLemmas.{settled_stands}
use Rattle.sh_grammar.proofs.state.Cursor.settled.Goals as goal

pub returns-clause-stands : goal.returns-clause-stands
returns-clause-stands c =
    let b = c.args.script.now in
    let at = c.blanks_at-at in
    let value = subst (λ (s : State). at.result ≡ blanks s.joins b s.at) c.get-here.ensures at.ensures.value in
    let after = subst (λ (s : State). s.at ≤ at.result) c.get-here.ensures at.ensures.after in
    let same : c.as_mut-state.result.now ≡ c.args.self = search rules in
    subst (λ (s : State). Stands b (record s { at = at.result; fresh = true })) (sym same) (settled_stands b at.result c.args.self c.requires.lies value after at.ensures.within)
