use Rattle.sh_grammar.specs.Readers.{CompoundFrom}
use Rattle.sh_grammar.proofs.CompoundLemmas.{other_lead}
use Rattle.sh_grammar.proofs.ReaderLemmas.{refused_none}
use Rattle.sh_grammar.proofs.grammar.Grammar.compound.Goals as goal

pub returns : goal.returns
returns g c =
    let b = c.args.script.now in
    refused_none b (CompoundFrom b c.args.lead c.args.from) c.unexpected_at.result c.unexpected_at.ensures.fault
    (λ limit k y l. other_lead c.in_default.not-Reserved (c.is_same.ensures.no c.if-is_same.false) l)
