use Rattle.sh_tree.specs.standard.Tree.{text_of}
use Rattle.sh_tree.specs.Lists.{elements_from}
use Rattle.sh_tree.specs.standard.program.Trees.{kind_of}
use Rattle.sh_rules.specs.Walks.{setting}
use Rattle.sh_rules.proofs.VisitLemmas.{counted_simple, counted_compound}
use Rattle.sh_visits.proofs.rules.tell_dropped.Goals as goal

pub returns-in-Some : goal.returns-in-Some
returns-in-Some g c =
    let x = setting c.args.claims.now in
    counted_simple g.A.Asked.asked x c.args.number (text_of x.script c.args.function) (kind_of x.script c.args.kind.now) (elements_from x.script c.in-Some.elements.now)
    (g.A.Asked.kept c.args.asked.now) (g.A.Asked.kept c.tell_lost.new.asked) (c.in-Some.ensures x.script) c.tell_lost.ensures

pub returns-in-None : goal.returns-in-None
returns-in-None g c =
    let x = setting c.args.claims.now in
    counted_compound g.A.Asked.asked x c.args.number (text_of x.script c.args.function) (kind_of x.script c.args.kind.now) (g.A.Asked.kept c.args.asked.now) (c.in-None.ensures x.script)
