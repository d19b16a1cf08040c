use Rattle.std.proofs.Common.{sym, ap, ◌∙◌}
use Rattle.sh_tree.specs.standard.language.Commands.{is_word}
use Rattle.sh_grammar.proofs.CaseLemmas.{unsplit_read}
use Rattle.sh_grammar.proofs.grammar.Grammar.unsplit.Goals as goal

pub returns : goal.returns
returns g c =
    let found = c.in_ok-word in
    let some = sym (c.is_word.ensures ∙ ap is_word c.lead.ensures.value) ∙ c.if-not-is_word.false in
    record {
      one = unsplit_read c.args.script.now c.args.from some found.word found.behind found.ensures.reads.one;
      from = found.ensures.reads.from;
      stands = found.ensures.reads.stands;
    }
