use Rattle.std.proofs.Common.{true}
use Rattle.sh_domain.specs.Entries.{item_seen}
use Rattle.sh_rules.specs.Behind.{started}
use Rattle.sh_rules.specs.Walks.{facts_in}
use Rattle.sh_drafts.proofs.ReadyLemmas.{numbered}
use Rattle.sh_sweeps.proofs.KnownLemmas.{facts_by, started_known}
use Rattle.sh_sweeps.proofs.known.started_in.Goals as goal

pub returns : goal.returns
unfolding started item_seen
returns c =
    let s = c.args.subject.now in
    let r = c.requires.1 in
    let h = numbered s.script.now s.policy.now s.tree.now s.names.now r.admitted in
    started_known s c.args.certificate.now h r.over true c.args.known.now _
    (facts_by s c.args.certificate.now _ c.claims_of-claims.ensures (λ x. started x true (facts_in x c.args.known.now)) _ c.without_job.ensures)
