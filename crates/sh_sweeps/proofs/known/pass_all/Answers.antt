use Rattle.std.proofs.Common.{fold, refl, sym, ◌∙◌}
use Rattle.sh_rules.specs.Walks.{behind_in, item_left}
use Rattle.sh_drafts.proofs.ReadyLemmas.{numbered}
use Rattle.sh_sweeps.proofs.KnownLemmas.{all_passed, behind_by, none_passed}
use Rattle.sh_sweeps.proofs.known.pass_all.Goals as goal

pub returns-then-is_empty : goal.returns-then-is_empty
returns-then-is_empty c = none_passed c.args.subject.now c.args.course.now c.args.items.now (sym c.is_empty.ensures ∙ c.if-is_empty.true)

pub returns : goal.returns
returns c =
    let s = c.args.subject.now in
    let r = c.requires.1 in
    let h = numbered s.script.now s.policy.now s.tree.now s.names.now r.admitted in
    all_passed s c.args.certificate.now h r.over c.args.course.now _ c.args.items.now refl
    (behind_by s c.args.certificate.now _ c.claims_of-claims.ensures (λ x. fold (item_left x) (behind_in x c.args.course.now.behind) c.args.items.now) _ c.pass_all.ensures)
    (sym c.is_empty.ensures ∙ c.if-is_empty.false)
