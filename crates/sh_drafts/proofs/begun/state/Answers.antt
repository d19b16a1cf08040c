use Rattle.std.proofs.Common.{rules, ◌≡◌, None, Some, option_map, ap, sym, subst, ◌∙◌}
use Rattle.sh_drafts.specs.Begun.{states}
use Rattle.sh_drafts.specs.Idle.{ClaimStays}
use Rattle.sh_drafts.specs.Kept.{fact_of, IsNamed}
use Rattle.sh_drafts.specs.Working.{IsLowered}
use Rattle.sh_drafts.specs.Writable.{sets_in}
use Rattle.sh_drafts.proofs.BegunLemmas.{begun_more, begun_none, stated_within}
use Rattle.sh_drafts.proofs.ReadyLemmas.{numbered}
use Rattle.sh_drafts.proofs.begun.state.Goals as goal

pub returns-in_default-clause-begun : goal.returns-in_default-clause-begun
returns-in_default-clause-begun c = λ done first away b.
    let k = c.args.subject.now.compact.now in
    let none : c.stated_at.result ≡ None = search rules in
    begun_none k done first c.args.certificate.now c.args.place c.requires.stated (ap (option_map (fact_of k.rows.rows)) (sym c.stated_at.ensures ∙ none)) b

pub returns-clause-begun : goal.returns-clause-begun
returns-clause-begun c = λ done first away b.
    let s = c.args.subject.now in
    let k = s.compact.now in
    let w = c.requires.working in
    let old = c.args.certificate.now in
    let new = c.lower_known.new.certificate in
    let known = fact_of k.rows.rows c.in-Some.facts in
    let may = sets_in s.writable.now.vars s.writable.now.functions in
    let is : states k c.args.place ≡ Some known = ap (option_map (fact_of k.rows.rows)) (sym c.stated_at.ensures ∙ c.in-Some.is) in
    let h = numbered s.script.now s.policy.now s.tree.now s.names.now c.requires.admitted in
    begun_more k done first old new c.args.place known may c.in_ok-lower_known.field-0 c.requires.stated away is
    (subst (λ f. IsLowered old new c.args.place f c.in_ok-lower_known.field-0) c.sight_by-known.ensures.seen (c.in_ok-lower_known.ensures.lowered w.0 w.1 w.2))
    (λ e. subst (λ f. ClaimStays old c.args.place f may) c.sight_by-known.ensures.seen (c.in_ok-lower_known.ensures.idle e))
    (stated_within s.names.now h k c.args.place known may c.requires.stateable is (subst (λ f. IsNamed k.rows.count f) c.sight_by-known.ensures.seen c.sight_by-known.ensures.named) c.requires.sized s.all_writable)
    b
