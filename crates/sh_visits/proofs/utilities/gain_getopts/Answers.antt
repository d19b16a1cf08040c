use Rattle.sh_tree.specs.Lists.{elements_from}
use Rattle.sh_rules.specs.Walks.{facts_in, setting}
use Rattle.sh_rules.proofs.UtilityLemmas.{some_option, no_option}
use Rattle.sh_visits.proofs.utilities.gain_getopts.Goals as goal

pub returns-in-Some : goal.returns-in-Some
unfolding setting
returns-in-Some c =
    let x = setting c.args.claims.now in
    some_option x (elements_from x.script c.args.elements.now) (facts_in x c.args.known.now) (facts_in x c.gain_free.new.known) (facts_in x c.gain_free-in-Some.new.known)
    c.in-Some.name.now _ c.in-Some.ensures (c.gain_free.ensures _ c.prefix_set-prefixes.ensures) (c.gain_free-in-Some.ensures _ c.prefix_set-prefixes.ensures)

pub returns-in_default : goal.returns-in_default
unfolding setting
returns-in_default c =
    let x = setting c.args.claims.now in
    no_option x (elements_from x.script c.args.elements.now) (facts_in x c.args.known.now) _ c.in_default.ensures
