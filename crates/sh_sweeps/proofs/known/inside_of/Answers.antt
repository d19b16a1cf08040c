use Rattle.std.proofs.Common.{subst}
use Rattle.sh_tree.specs.declared.tree.Command.{out-Command}
use Rattle.sh_tree.specs.Lists.{redirects_from}
use Rattle.sh_domain.specs.Gains.{redirects_gains}
use Rattle.sh_domain.specs.Knowledge.{knowledge_facts}
use Rattle.sh_domain.specs.Views.{Before, at, gaining}
use Rattle.sh_sweeps.specs.Sweeps.{Knows}
use Rattle.sh_sweeps.proofs.known.inside_of.Goals as goal

pub returns : goal.returns
returns c =
    let s = c.args.subject.now in
    let n = (out-Command c.args.command.now).number in
    subst (λ rs. Knows s (gaining (redirects_gains (redirects_from s.script.now rs)) (at (Before n))) (knowledge_facts s.names.now c.gain_redirections.new.known)) c.as_slice-redirects.ensures
    (c.gain_redirections.ensures (at (Before n)) c.before_of-inside.ensures)
