use Rattle.sh_rules.specs.Tells.{least_of}
use Rattle.sh_rules.proofs.RuleLemmas.{rules_told}
use Rattle.sh_walks.proofs.rules.check_rules.Goals as goal

pub returns : goal.returns
returns c =
    rules_told c.args.claims.now c.args.policy.now c.args.tree.now c.start-start.result (least_of c.walk.new.visitor.asked) c.requires.table c.requires.numbered c.requires.few
    c.requires.names c.start-start.ensures c.walk.ensures
