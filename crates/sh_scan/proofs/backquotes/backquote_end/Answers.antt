use Rattle.std.proofs.Common.{◌≡◌, None, rules}
use Rattle.sh_scan.proofs.BackquoteLemmas.{no_backquote_behind, backquote_behind}
use Rattle.sh_scan.proofs.backquotes.backquote_end.Goals as goal

pub returns-in_err-count-clause-value : goal.returns-in_err-count-clause-value
returns-in_err-count-clause-value c =
    let none : c.from_residual.result ≡ None = search rules in
    rw none (no_backquote_behind c.args.script.now c.args.at c.requires.inside c.in_err-count.ensures)

pub returns-clause-value : goal.returns-clause-value
returns-clause-value c = backquote_behind c.args.script.now c.args.at c.in_ok-count.count c.in_ok-count.ensures
