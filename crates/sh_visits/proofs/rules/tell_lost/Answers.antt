use Rattle.std.proofs.Common.{map}
use Rattle.sh_tree.specs.standard.Tree.{text_of}
use Rattle.sh_tree.specs.Lists.{elements_from}
use Rattle.sh_table.specs.WordTexts.{text_in}
use Rattle.sh_rules.specs.Walks.{setting}
use Rattle.sh_rules.proofs.VisitLemmas.{drops_simple}
use Rattle.sh_visits.proofs.rules.tell_lost.Goals as goal

pub returns : goal.returns
returns g c =
    let x = setting c.args.claims.now in
    drops_simple g.A.Asked.asked x c.args.number (text_of x.script c.args.function) (elements_from x.script c.args.elements.now) c.is_call-is_call.result
    (map (text_in x.script) c.texts-texts.result.now) (g.A.Asked.kept c.args.asked.now) (g.A.Asked.kept c.tell_drops.new.asked)
    c.is_call-is_call.ensures c.texts-texts.ensures c.tell_drops.ensures
