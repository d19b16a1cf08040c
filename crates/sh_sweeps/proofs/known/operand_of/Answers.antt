use Rattle.sh_tree.specs.standard.program.Trees.{parameter_of}
use Rattle.sh_gains.specs.Knowing.{inner_gains}
use Rattle.sh_rules.specs.Settings.{gained}
use Rattle.sh_rules.specs.Walks.{facts_in}
use Rattle.sh_drafts.proofs.ReadyLemmas.{numbered}
use Rattle.sh_sweeps.proofs.KnownLemmas.{facts_by}
use Rattle.sh_sweeps.proofs.WordLemmas.{operand_entered}
use Rattle.sh_sweeps.proofs.known.operand_of.Goals as goal

pub returns : goal.returns
returns c =
    let s = c.args.subject.now in
    let r = c.requires.1 in
    let h = numbered s.script.now s.policy.now s.tree.now s.names.now r.admitted in
    operand_entered s c.args.certificate.now h r.over c.args.action (parameter_of s.script.now c.args.parameter) c.args.known.now _
    (facts_by s c.args.certificate.now _ c.claims_of-claims.ensures (λ x. gained x (inner_gains (parameter_of x.script c.args.parameter) c.args.action) (facts_in x c.args.known.now)) _ c.enter_operator.ensures)
