use Rattle.std.proofs.Common.{◌≤◌, arith, rules}
use Rattle.sh_report.proofs.LintLemmas.{few_commands, states}
use Rattle.sh_report.proofs.lints.greatest_compact.Goals as goal

pub compact_of-requires-clause-few : goal.compact_of-requires-clause-few
compact_of-requires-clause-few c = let few = c.requires.admitted.numbered.1 in let sized = c.in_ok-certificate.ensures.sized in omega (arith, few, sized)

pub compact_of-requires-clause-commands : goal.compact_of-requires-clause-commands
compact_of-requires-clause-commands c = few_commands c.args.script.now c.args.policy.now c.args.prepared.now c.in_ok-certificate.certificate c.in_ok-certificate.ensures.greatest

pub returns : goal.returns
returns c =
    let few : c.args.policy.now.args ≤ 65535 = search rules in
    states c.args.script.now c.args.policy.now c.args.prepared.now c.requires c.names-declared.ensures.named few c.start_of-start.result c.start_of-start.ensures
    c.in_ok-certificate.certificate c.compact_of.result c.in_ok-certificate.ensures.greatest c.compact_of.ensures.sheet c.in_ok-certificate.ensures.sized
