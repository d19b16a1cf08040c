use Rattle.std.proofs.Common.{sym, ap, ◌∙◌}
use Rattle.sh_tree.specs.standard.language.Commands.{is_word}
use Rattle.sh_grammar.proofs.ForLemmas.{words_all}
use Rattle.sh_grammar.proofs.grammar.Grammar.words_at.Goals as goal

pub returns : goal.returns
returns g c =
    let at = c.loop-next in
    let none = sym (c.is_word.ensures ∙ ap is_word c.lead.ensures.value) ∙ c.loop-next-test.false in
    record {
      one = words_all c.args.script.now c.args.from at.next at.words at.invariant.found none;
      from = at.invariant.from;
      stands = at.invariant.stands;
    }
