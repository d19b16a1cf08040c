use Rattle.std.proofs.Common.{drop, ap, ◌∙◌}
use Rattle.sh_tree.specs.standard.language.Bytes.{longest}
use Rattle.sh_tree.specs.standard.language.Commands.{short_operators}
use Rattle.sh_scan.proofs.OperatorLemmas.{first_and_rest}
use Rattle.sh_scan.proofs.commands.operators.short_at.Goals as goal

pub returns-in-len1-up : goal.returns-in-len1-up
returns-in-len1-up c =
    let text = c.args.rest.now in
    c.lone_operator.ensures (drop 1 text) ∙ ap (longest short_operators) (first_and_rest text c.in-len1-up.len_at_least)
