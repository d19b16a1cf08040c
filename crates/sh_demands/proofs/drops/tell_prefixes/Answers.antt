use Rattle.std.proofs.Common.{List, fold, take_all, sym, ap, ◌∙◌, subst}
use Rattle.sh_tree.specs.declared.place.Place.{Place}
use Rattle.sh_gains.specs.Knowing.{knowing}
use Rattle.sh_demands.specs.DropWalks as walks
use Rattle.sh_demands.specs.Reported.{HasReportedSince}
use Rattle.sh_demands.proofs.DropLemmas.{prefixes_told}
use Rattle.sh_demands.proofs.drops.tell_prefixes.Goals as goal

pub returns : goal.returns
returns c = λ k ps h.
    let a = c.args in
    let b = a.script.now in
    let f = (knowing a.known.now).facts in
    let es = a.elements.now in
    subst (λ (qs : List Place). HasReportedSince c.loop-element.reports a.start k qs)
    (ap (fold (walks.prefix_step b f k a.at) ps) (take_all c.loop-element.element-index es c.loop-element-test.false) ∙ sym (prefixes_told b f k a.at ps es))
    (c.loop-element.invariant k ps h)
