use Rattle.sh_rules.specs.Walks.{facts_in, setting}
use Rattle.std.proofs.Common.{sym, map}
use Rattle.sh_tree.specs.Lists.{elements_from}
use Rattle.sh_table.specs.WordTexts.{text_in}
use Rattle.sh_rules.proofs.UtilityLemmas.{static_read, computed_read}
use Rattle.sh_visits.proofs.utilities.gain_read.Goals as goal

pub returns-then-are_static : goal.returns-then-are_static
unfolding setting
returns-then-are_static c =
    let x = setting c.args.claims.now in
    static_read x (elements_from x.script c.args.elements.now) (facts_in x c.args.known.now) (facts_in x c.gain_behind.new.known) (map (text_in x.script) c.args.operands.now)
    (sym c.if-are_static.ensures) c.gain_behind.ensures

pub returns-else-are_static : goal.returns-else-are_static
unfolding setting
returns-else-are_static c =
    let x = setting c.args.claims.now in
    computed_read x (elements_from x.script c.args.elements.now) (facts_in x c.args.known.now) (map (text_in x.script) c.args.operands.now) (sym c.if-are_static.ensures)
