use Rattle.sh_rules.specs.Walks.{facts_in, setting}
use Rattle.std.proofs.Common.{map, ◌∙◌}
use Rattle.sh_tree.specs.Lists.{elements_from}
use Rattle.sh_table.specs.WordTexts.{text_in}
use Rattle.sh_rules.specs.Walks.{behind_in}
use Rattle.sh_rules.proofs.UtilityLemmas.{set_none, set_some}
use Rattle.sh_visits.proofs.utilities.set_behind.Goals as goal

pub returns-in-Some : goal.returns-in-Some
unfolding setting
returns-in-Some c =
    let x = setting c.args.claims.now in
    set_some x (facts_in x c.args.known.now) (map (text_in x.script) c.args.operands.now) (elements_from x.script c.args.elements.now) c.in-Some.skipped (behind_in x c.set_words.result)
    c.in-Some.ensures.same c.set_words.ensures

pub returns-in-None : goal.returns-in-None
unfolding setting
returns-in-None c =
    let x = setting c.args.claims.now in
    c.both.ensures x
    ∙ set_none x (facts_in x c.args.known.now) (map (text_in x.script) c.args.operands.now) (elements_from x.script c.args.elements.now) (facts_in x c.settled.result)
    c.in-None.ensures.same c.settled.ensures
