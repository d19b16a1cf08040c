use Rattle.std.proofs.Common.{false, ap, subst, arith}
use Rattle.sh_tree.specs.declared.token.command.Stage.TheVariants.{First}
use Rattle.sh_grammar.specs.declared.state.State.{State}
use Rattle.sh_grammar.specs.Readers.{One, ElementsFrom}
use Rattle.sh_grammar.specs.States.{here}
use Rattle.sh_grammar.proofs.CommandLemmas.{simple_read}
use Rattle.sh_grammar.proofs.StateLemmas.{closing_stands}
use Rattle.sh_grammar.proofs.grammar.Grammar.simple.Goals as goal

pub returns : goal.returns
returns g c =
    let b = c.args.script.now in
    let s = c.args.from in
    let found = c.in_ok-elements in
    let one = subst (λ v. One (ElementsFrom b (First, v)) (here found.behind) found.elements) c.counted.ensures found.ensures.one in
    let same = ap (λ (v : State). v.at) c.counted.ensures in
    let further = found.ensures.from in
    rw (c.closing.ensures, c.new.ensures, c.count-count.ensures, c.at-at.ensures) (record {
      one = simple_read b s c.requires.begins found.elements found.behind one;
      from = omega arith;
      stands = closing_stands b false false found.behind found.ensures.stands;
    })
