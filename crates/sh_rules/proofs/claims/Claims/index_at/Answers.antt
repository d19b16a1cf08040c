use Rattle.sh_rules.proofs.VisitLemmas.{index_read}
use Rattle.sh_rules.proofs.claims.Claims.index_at.Goals as goal

pub returns : goal.returns
returns c = index_read c.args.self.now _ c.args.name c.function_at.ensures
