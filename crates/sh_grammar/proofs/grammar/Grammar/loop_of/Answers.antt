use Rattle.std.proofs.Common.{ap, subst, ◌∙◌, arith}
use Rattle.sh_grammar.specs.Phrases.{entered}
use Rattle.sh_grammar.specs.Readers.{One, ListFrom}
use Rattle.sh_grammar.specs.States.{here}
use Rattle.sh_grammar.proofs.LoopLemmas.{loop_read}
use Rattle.sh_grammar.proofs.StateLemmas.{at_depth_stands}
use Rattle.sh_grammar.proofs.grammar.Grammar.loop_of.Goals as goal

pub returns : goal.returns
returns g c =
    let b = c.args.script.now in
    let s = c.args.from in
    let first = c.in_ok-condition in
    let found = c.in_ok-body in
    let at = c.enter.ensures.value ∙ ap (λ w. entered b w s) c.word_of.ensures in
    let one = subst (λ v. One (ListFrom b v) (here first.behind) first.condition) at first.ensures.one in
    let further = c.enter.ensures.further in
    let before = first.ensures.from in
    let after = found.ensures.from in
    rw (c.at_depth.ensures, c.depth-depth.ensures) (record {
      one = loop_read b c.args.kind s c.requires.shallow first.condition first.behind one found.body found.end found.ensures.one;
      from = omega arith;
      stands = at_depth_stands b s.depth found.end c.requires.stands.shallow found.ensures.stands;
    })
