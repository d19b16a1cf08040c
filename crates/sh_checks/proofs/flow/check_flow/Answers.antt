use Rattle.std.proofs.Common.{subst}
use Rattle.sh_checks.proofs.FlowLemmas.{found, names_of, numbered}
use Rattle.sh_domain.specs.Certificates.{in_byte_order, sheet_of}
use Rattle.sh_domain.specs.Facts.{start_facts}
use Rattle.sh_checks.specs.Flows.{FindsFault}
use Rattle.sh_checks.proofs.flow.check_flow.Goals as goal

pub check_demands-requires-clause-numbered : goal.check_demands-requires-clause-numbered
check_demands-requires-clause-numbered c = numbered c.args.script.now c.args.tree.now c.requires.reading

pub check_demands-requires-clause-names : goal.check_demands-requires-clause-names
check_demands-requires-clause-names c = names_of c.args.script.now c.args.tree.now c.args.policy.now c.args.names.now c.requires.names

pub returns-in_ok-places-in-None-clause-flows : goal.returns-in_ok-places-in-None-clause-flows
returns-in_ok-places-in-None-clause-flows c =
    let sheet = sheet_of (in_byte_order c.args.names.now) c.args.certificate.now in
    let none = subst (FindsFault c.args.script.now c.args.policy.now c.args.tree.now sheet) c.in-None.is c.fault_of.ensures in
    found c.args.script.now c.args.policy.now c.args.tree.now sheet c.in_ok-places-in-None.places.items c.flow_of.result none (c.in_ok-places-in-None.ensures.places (start_facts c.args.policy.now))
    c.flow_of.ensures
