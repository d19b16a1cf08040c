use Rattle.std.proofs.Common.{◌≡◌, [], Bor, map, rules}
use Rattle.sh_tree.specs.declared.tree.Command.{Command}
use Rattle.sh_tree.specs.declared.tree.Script.{out-Script}
use Rattle.sh_tree.specs.Commands as spec
use Rattle.sh_tree.proofs.CommandLemmas.{all_in_order, none_found}
use Rattle.sh_tree.proofs.listing.commands.Goals as goal

pub returns-clause-same : goal.returns-clause-same
returns-clause-same c =
    let whole : map (λ (x : Bor Command). x.now) c.add_script.new.found.items ≡ spec.of_script c.args.script.now = search rules in
    all_in_order c.in_order.result _ _ whole c.in_order.ensures.same

pub returns-then-is_empty-clause-same : goal.returns-then-is_empty-clause-same
returns-then-is_empty-clause-same c =
    let none : (out-Script c.args.script.now).items ≡ [] = search rules in
    none_found c.args.script.now _ none c.new-found.ensures.items
