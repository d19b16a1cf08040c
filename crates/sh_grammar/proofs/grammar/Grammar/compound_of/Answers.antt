use Rattle.sh_tree.specs.declared.token.command.Lead.TheVariants as lead
use Rattle.sh_grammar.specs.Readers.{CompoundFrom}
use Rattle.sh_grammar.proofs.CompoundLemmas.{other_word}
use Rattle.sh_grammar.proofs.ReaderLemmas.{refused_none}
use Rattle.sh_grammar.proofs.grammar.Grammar.compound_of.Goals as goal

pub returns-in_default : goal.returns-in_default
returns-in_default g c =
    let b = c.args.script.now in
    let at = c.in_default in
    refused_none b (CompoundFrom b (lead.Reserved c.args.word) c.args.from) c.unexpected_at.result c.unexpected_at.ensures.fault
    (λ limit k y l. other_word at.not-LeftBrace at.not-Case at.not-For at.not-If at.not-Until at.not-While l)
