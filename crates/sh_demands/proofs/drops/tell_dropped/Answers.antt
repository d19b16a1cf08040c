use Rattle.std.proofs.Common.{List, fold, length, subst}
use Rattle.sh_tree.specs.declared.place.Place.{Place}
use Rattle.sh_domain.specs.NumberSets.{numbers_of}
use Rattle.sh_demands.specs.DropWalks.{plain_step}
use Rattle.sh_demands.specs.Reported.{HasReportedSince}
use Rattle.sh_demands.proofs.ReportLemmas.{since_added}
use Rattle.sh_demands.proofs.RowLemmas.{sets_once, steps_added}
use Rattle.sh_demands.proofs.drops.tell_dropped.Goals as goal

pub returns : goal.returns
returns c = λ start ps h.
    let a = c.args in
    let blocks = a.blocks.now in
    let names = blocks.names.now in
    let ks = blocks.numbers.now in
    let first = numbers_of c.join_row.new.self in
    let other = numbers_of c.join_row-2.new.self in
    let last = numbers_of c.remove.new.self in
    subst (HasReportedSince c.tell_set-2.new.reports start (length ps))
    (sets_once names c.requires a.rows.now a.drops.vars a.drops.functions (numbers_of c.new-vars.result) first (numbers_of c.new-functions.result) other last
    c.new-vars.ensures.numbers c.join_row.ensures.below c.new-functions.ensures.numbers c.join_row-2.ensures.below c.remove.ensures ks blocks.order blocks.below a.at ps)
    (since_added a.reports.now.is_short c.tell_set-2.new.reports.is_short a.reports.now.places.items c.tell_set-2.new.reports.places.items _
    (λ (qs : List Place). fold (plain_step names last a.at) (fold (plain_step names first a.at) qs ks) ks) (steps_added names first last a.at ks blocks.below)
    (λ qs r. c.tell_set-2.ensures _ (c.tell_set.ensures qs r)) start (length ps) ps h)
