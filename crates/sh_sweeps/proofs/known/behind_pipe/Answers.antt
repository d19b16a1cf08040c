use Rattle.sh_rules.specs.Walks as walks
use Rattle.sh_rules.specs.Walks.{facts_in}
use Rattle.sh_drafts.proofs.ReadyLemmas.{numbered}
use Rattle.sh_sweeps.proofs.KnownLemmas.{behind_by, pipe_known}
use Rattle.sh_sweeps.proofs.known.behind_pipe.Goals as goal

pub returns : goal.returns
returns c =
    let s = c.args.subject.now in
    let r = c.requires.1 in
    let h = numbered s.script.now s.policy.now s.tree.now s.names.now r.admitted in
    pipe_known s c.args.certificate.now h r.over c.args.known.now c.args.pipe.now _
    (behind_by s c.args.certificate.now _ c.claims_of-claims.ensures (λ x. walks.pipe_behind x (facts_in x c.args.known.now) c.args.pipe.now) _ c.pipe_behind.ensures)
