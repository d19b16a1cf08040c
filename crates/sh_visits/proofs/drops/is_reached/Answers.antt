use Rattle.sh_rules.proofs.ReachedLemmas.{reached}
use Rattle.sh_visits.proofs.drops.is_reached.Goals as goal

pub returns : goal.returns
returns c = reached c.args.claims.now c.args.number c.before_into.new.known c.is_reached.result c.before_into.ensures c.is_reached.ensures
