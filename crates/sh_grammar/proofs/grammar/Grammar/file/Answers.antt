use Rattle.std.proofs.Common.{arith}
use Rattle.sh_grammar.proofs.RedirectLemmas.{redirect_read}
use Rattle.sh_grammar.proofs.grammar.Grammar.file.Goals as goal

pub returns : goal.returns
returns g c =
    let found = c.in_ok-word in
    let moves = c.requires.moves in
    let further = found.ensures.reads.from in
    record {
      one = redirect_read c.args.script.now c.args.from c.args.front c.requires.begins c.args.direction found.word found.behind c.requires.way found.ensures.reads.one;
      from = omega arith;
      stands = found.ensures.reads.stands;
    }
