use Rattle.sh_tree.specs.standard.program.Trees.{parameter_of}
use Rattle.sh_gains.specs.Knowing.{action_gains}
use Rattle.sh_rules.specs.Settings.{gained}
use Rattle.sh_rules.specs.Walks.{facts_in}
use Rattle.sh_drafts.proofs.ReadyLemmas.{numbered}
use Rattle.sh_sweeps.proofs.KnownLemmas.{facts_by, gains_known}
use Rattle.sh_sweeps.proofs.known.behind_action.Goals as goal

pub returns : goal.returns
returns c =
    let s = c.args.subject.now in
    let r = c.requires.1 in
    let h = numbered s.script.now s.policy.now s.tree.now s.names.now r.admitted in
    gains_known s c.args.certificate.now h r.over (action_gains (parameter_of s.script.now c.args.parameter) c.args.action) c.args.known.now _
    (facts_by s c.args.certificate.now _ c.claims_of-claims.ensures (λ x. gained x (action_gains (parameter_of x.script c.args.parameter) c.args.action) (facts_in x c.args.known.now)) _ c.gain_action.ensures)
