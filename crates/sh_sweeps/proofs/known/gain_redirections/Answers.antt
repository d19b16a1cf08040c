use Rattle.sh_tree.specs.Lists.{redirects_from}
use Rattle.sh_domain.specs.Gains.{redirects_gains}
use Rattle.sh_rules.specs.Settings.{gained}
use Rattle.sh_rules.specs.Walks.{facts_in}
use Rattle.sh_drafts.proofs.ReadyLemmas.{numbered}
use Rattle.sh_sweeps.proofs.KnownLemmas.{facts_by, gains_known}
use Rattle.sh_sweeps.proofs.known.gain_redirections.Goals as goal

pub returns : goal.returns
returns c =
    let s = c.args.subject.now in
    let r = c.requires.1 in
    let h = numbered s.script.now s.policy.now s.tree.now s.names.now r.admitted in
    gains_known s c.args.certificate.now h r.over (redirects_gains (redirects_from s.script.now c.args.redirects.now)) c.args.known.now _
    (facts_by s c.args.certificate.now _ c.claims_of-claims.ensures (λ x. gained x (redirects_gains (redirects_from x.script c.args.redirects.now)) (facts_in x c.args.known.now)) _ c.gain_redirects.ensures)
