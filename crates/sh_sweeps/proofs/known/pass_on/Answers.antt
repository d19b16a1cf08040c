use Rattle.std.proofs.Common.{refl}
use Rattle.sh_rules.specs.Walks.{behind_in, item_left}
use Rattle.sh_drafts.proofs.ReadyLemmas.{numbered}
use Rattle.sh_sweeps.proofs.KnownLemmas.{behind_by, passed_on}
use Rattle.sh_sweeps.proofs.known.pass_on.Goals as goal

pub returns : goal.returns
returns c =
    let s = c.args.subject.now in
    let r = c.requires.1 in
    let h = numbered s.script.now s.policy.now s.tree.now s.names.now r.admitted in
    passed_on s c.args.certificate.now h r.over c.args.course.now _ c.args.item.now refl
    (behind_by s c.args.certificate.now _ c.claims_of-claims.ensures (λ x. item_left x (behind_in x c.args.course.now.behind) c.args.item.now) _ c.pass_item.ensures)
