use Rattle.sh_table.proofs.SiteLemmas.{one_more}
use Rattle.sh_table.proofs.sites.MetVisitor.visit.Goals as goal

pub returns : goal.returns
returns c = λ os q. one_more c.args._script.now _ _ _ c.args.around c.args.command.now c.in_ok-push.ensures.items (c.site_of.ensures c.args._script.now) os q
