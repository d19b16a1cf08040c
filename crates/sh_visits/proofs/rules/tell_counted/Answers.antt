use Rattle.std.proofs.Common.{refl}
use Rattle.sh_tree.specs.standard.Tree.{text_of}
use Rattle.sh_tree.specs.standard.program.Trees.{kind_of}
use Rattle.sh_rules.specs.Walks.{setting}
use Rattle.sh_rules.proofs.VisitLemmas.{counted_here, counted_nowhere}
use Rattle.sh_visits.proofs.rules.tell_counted.Goals as goal

pub returns-in-Some : goal.returns-in-Some
returns-in-Some g c =
    let x = setting c.args.claims.now in
    counted_here g.A.Asked.asked x c.args.number c.args.around.now.drops c.in-Some.function (text_of x.script c.in-Some.function) (kind_of x.script c.args.kind.now)
    (g.A.Asked.kept c.args.asked.now) (g.A.Asked.kept c.tell_dropped.new.asked) c.in-Some.is refl c.tell_dropped.ensures

pub returns-in-None : goal.returns-in-None
returns-in-None g c =
    let x = setting c.args.claims.now in
    counted_nowhere g.A.Asked.asked x c.args.number c.args.around.now.drops (kind_of x.script c.args.kind.now) (g.A.Asked.kept c.args.asked.now) c.in-None.is
