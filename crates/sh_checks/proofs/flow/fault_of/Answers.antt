use Rattle.sh_demands.proofs.WholeLemmas.{names_numbered}
use Rattle.sh_checks.proofs.FlowLemmas.{few, names_of, numbered, script_kept}
use Rattle.sh_checks.proofs.flow.fault_of.Goals as goal

pub invariant_of-claims : goal.invariant_of-claims
invariant_of-claims c =
    record {
      numbered = names_numbered c.args.script.now c.args.tree.now c.args.names.now (names_of c.args.script.now c.args.tree.now c.args.policy.now c.args.names.now c.requires.names);
      sized = c.requires.sized;
      read = script_kept c.args.script.now c.args.tree.now c.args.calls.now c.requires.table;
    }

pub check_rules-requires-clause-numbered : goal.check_rules-requires-clause-numbered
check_rules-requires-clause-numbered c = numbered c.args.script.now c.args.tree.now c.requires.reading

pub check_rules-requires-clause-few : goal.check_rules-requires-clause-few
check_rules-requires-clause-few c = few c.args.script.now c.args.tree.now c.requires.reading
