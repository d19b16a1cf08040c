use Rattle.std.proofs.Common.{rules}
use Rattle.sh_rules.proofs.ClaimLemmas.{claim_tested}
use Rattle.sh_rules.proofs.claims.Claims.is_known.Goals as goal

pub returns : goal.returns
returns c = claim_tested c.args.self.now c.args.facts.now c.args.known.now c.includes.result (search rules) (search rules) c.includes.ensures
