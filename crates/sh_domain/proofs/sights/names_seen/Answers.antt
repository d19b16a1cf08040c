use Rattle.std.proofs.Common.{◌≡◌, Bor, rules}
use Rattle.std.specs.List.{flat_map}
use Rattle.sh_tree.specs.declared.tree.Command.{Command}
use Rattle.sh_domain.specs.Sights as spec
use Rattle.sh_domain.specs.SightWalks.{seen_in}
use Rattle.sh_domain.proofs.SightLemmas.{sights_in_order}
use Rattle.sh_domain.proofs.sights.names_seen.Goals as goal

pub returns-clause-all : goal.returns-clause-all
returns-clause-all c =
    let whole : seen_in c.add_commands.new.found.items ≡ flat_map (λ (x : Bor Command). spec.in_command c.args.script.now x.now) c.args.commands.now = search rules in
    sights_in_order c.in_order.result _ _ whole c.in_order.ensures.same
