use Rattle.sh_domain.proofs.SightLemmas.{in_text_order}
use Rattle.sh_domain.proofs.name_set.names_in.Goals as goal

pub returns : goal.returns
returns c =
    in_text_order c.args.script.now c.args.tree.now _ c.names_seen.result c.in_ok-commands.ensures.same (rw c.deref.ensures.value at c.names_seen.ensures.all) c.names_seen.ensures.ordered
