use Rattle.std.proofs.Common.{[], ◌∷◌}
use Rattle.sh_domain.specs.Gains.{named}
use Rattle.sh_rules.specs.Settings.{gained}
use Rattle.sh_rules.specs.Walks.{facts_in}
use Rattle.sh_drafts.proofs.ReadyLemmas.{numbered}
use Rattle.sh_sweeps.proofs.KnownLemmas.{facts_by, gains_known}
use Rattle.sh_sweeps.proofs.known.behind_name.Goals as goal

pub returns : goal.returns
returns c =
    let s = c.args.subject.now in
    let r = c.requires.1 in
    let h = numbered s.script.now s.policy.now s.tree.now s.names.now r.admitted in
    gains_known s c.args.certificate.now h r.over (named (c.args.name.now ∷ [])) c.args.known.now _
    (facts_by s c.args.certificate.now _ c.claims_of-claims.ensures (λ x. gained x (named (c.args.name.now ∷ [])) (facts_in x c.args.known.now)) _ c.gain_variable.ensures)
