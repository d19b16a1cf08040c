use Rattle.std.proofs.Common.{◌<◌, IfOk, subst}
use Rattle.sh_words.specs.Modes.{context_of}
use Rattle.sh_grammar.specs.Modes.{Begins}
use Rattle.sh_grammar.specs.Readers.{Answers, WordAt}
use Rattle.sh_grammar.proofs.grammar.Grammar.word.Goals as goal

pub returns-clause-reads : goal.returns-clause-reads
returns-clause-reads g c =
    let b = c.args.script.now in
    subst (λ i. Answers b (WordAt b (context_of b c.args.mode i) i c.args.from) i c.word_at.result) c.at-at.ensures c.word_at.ensures.reads

pub returns-clause-moves : goal.returns-clause-moves
returns-clause-moves g c =
    let b = c.args.script.now in
    subst (λ i. IfOk c.word_at.result (λ r. Begins b (context_of b c.args.mode i) i c.args.from → i < r.1.at)) c.at-at.ensures c.word_at.ensures.moves
