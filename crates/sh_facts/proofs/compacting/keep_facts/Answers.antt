use Rattle.sh_facts.proofs.CompactingLemmas.{known_kept, unreached_kept}
use Rattle.sh_facts.proofs.compacting.keep_facts.Goals as goal

pub returns-in-NotReached : goal.returns-in-NotReached
returns-in-NotReached c = rw c.in-NotReached.is (unreached_kept c.args.from.now c.args.rows.now)

pub returns-in_ok-kept-in-Known : goal.returns-in_ok-kept-in-Known
returns-in_ok-kept-in-Known c =
    rw c.in-Known.is (known_kept c.args.from.now c.args.rows.now c.keep_drops.new.rows c.in-Known.vars c.in-Known.functions c.in-Known.args c.in_ok-kept-in-Known.kept c.in_ok-kept-in-Known.ensures)
