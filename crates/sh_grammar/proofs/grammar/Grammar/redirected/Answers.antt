use Rattle.sh_grammar.proofs.CommandLemmas.{redirects_read}
use Rattle.sh_grammar.proofs.StateLemmas.{closing_stands}
use Rattle.sh_grammar.proofs.grammar.Grammar.redirected.Goals as goal

pub returns : goal.returns
returns g c =
    let b = c.args.script.now in
    let found = c.in_ok-redirects in
    rw (c.closing.ensures, c.is_bare-closed.ensures) (record {
      one = redirects_read b c.args.number c.args.at c.args.kind c.args.from found.redirects found.behind found.ensures.one;
      from = found.ensures.from;
      stands = closing_stands b _ _ found.behind found.ensures.stands;
    })
