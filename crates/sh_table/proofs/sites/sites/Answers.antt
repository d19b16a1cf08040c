use Rattle.std.proofs.Common.{refl}
use Rattle.sh_table.proofs.SiteLemmas.{sites_whole}
use Rattle.sh_table.proofs.sites.sites.Goals as goal

pub returns : goal.returns
returns c = sites_whole c.args.script.now c.args.tree.now _ _ _ c.new.ensures.items (c.in_ok-walk.ensures _ refl) (c.in_ok-sort_sites.ensures c.args.script.now)
