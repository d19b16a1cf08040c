use Rattle.sh_table.proofs.FoundLemmas.{one_found}
use Rattle.sh_table.proofs.found.FoundVisitor.visit.Goals as goal

pub returns : goal.returns
returns c = λ k q. one_found c.add_definition.result c.args.script.now _ _ _ _ c.args._around c.args.command.now c.in_ok-add_row.ensures (c.add_definition.ensures c.args.script.now) k q
