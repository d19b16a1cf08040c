use Rattle.std.proofs.Common.{rules, ◌≤◌, IfSome, ◌∙◌, sym, subst}
use Rattle.sh_tally.specs.Tallies.{Bounds}
use Rattle.sh_tally.proofs.TallyLemmas.{bound_tallied}
use Rattle.sh_tally.proofs.bounds.Tally.bound_by.Goals as goal

pub returns : goal.returns
returns c = λ u bounds t.
    let small : c.in-Some.view.least ≤ 65535 = search rules in
    let at_place = sym c.args-2.ensures ∙ c.in-Some-args.is in
    let at_source = sym c.args-3.ensures ∙ c.in-Some-args-2.is in
    let one : Bounds c.args.self.now.places u c.args.place c.args.change c.in-Some.view = subst (λ o. IfSome o (Bounds c.args.self.now.places u c.args.place c.args.change)) c.in-Some.is bounds in
    bound_tallied c.args.self.now.places u c.args.equations.now c.changed.new.self c.bound.new.self c.args.place c.in-Some.view.source c.in_ok-source.source c.in-Some.view.least _ _ c.args.change at_place at_source small
    c.in_ok-source.ensures c.bound.ensures.most c.in_ok-bound.ensures.ok (one _ _ at_place at_source) t
