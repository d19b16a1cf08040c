use Rattle.sh_rules.specs.Walks as walks
use Rattle.sh_rules.specs.Walks.{behind_in}
use Rattle.sh_drafts.proofs.ReadyLemmas.{numbered}
use Rattle.sh_sweeps.proofs.KnownLemmas.{behind_by, link_known}
use Rattle.sh_sweeps.proofs.known.pass_link.Goals as goal

pub returns : goal.returns
returns c =
    let s = c.args.subject.now in
    let r = c.requires.1 in
    let h = numbered s.script.now s.policy.now s.tree.now s.names.now r.admitted in
    link_known s c.args.certificate.now h r.over c.args.behind.now _ c.args.link.now
    (behind_by s c.args.certificate.now _ c.claims_of-claims.ensures (λ x. walks.link_left x (behind_in x c.args.behind.now) c.args.link.now) _ c.pass_link.ensures)
