use Rattle.sh_rules.specs.Walks.{setting}
use Rattle.sh_tree.specs.Lists.{elements_from}
use Rattle.sh_domain.specs.Table.{prefixes}
use Rattle.sh_rules.proofs.CallLemmas.{returned_known}
use Rattle.sh_visits.proofs.calls.call_known.Goals as goal

pub returns : goal.returns
returns c =
    λ r is. returned_known c.args.claims.now c.args.function.now r c.args.returned.now (prefixes (elements_from (setting c.args.claims.now).script c.args.elements.now)) c.args.known.now c.call.new.self
    c.prefix_set-prefixes.result c.args.claims.now.numbered is c.prefix_set-prefixes.ensures c.call.ensures
