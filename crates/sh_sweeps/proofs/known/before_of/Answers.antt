use Rattle.sh_domain.specs.Views.{Before}
use Rattle.sh_rules.specs.Settings.{known_at}
use Rattle.sh_drafts.proofs.ReadyLemmas.{numbered}
use Rattle.sh_sweeps.proofs.KnownLemmas.{facts_by, slot_known}
use Rattle.sh_sweeps.proofs.known.before_of.Goals as goal

pub returns : goal.returns
returns c =
    let s = c.args.subject.now in
    let r = c.requires.1 in
    let h = numbered s.script.now s.policy.now s.tree.now s.names.now r.admitted in
    slot_known s c.args.certificate.now h r.over (Before c.args.number) _ (facts_by s c.args.certificate.now _ c.claims_of-claims.ensures (λ x. known_at x (Before c.args.number)) _ c.before_into.ensures)
