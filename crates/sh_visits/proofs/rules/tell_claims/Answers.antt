use Rattle.std.proofs.Common.{map}
use Rattle.sh_tree.specs.Lists.{elements_from, redirects_from}
use Rattle.sh_tree.specs.standard.program.Trees.{kind_of}
use Rattle.sh_table.specs.WordTexts.{text_in}
use Rattle.sh_rules.specs.CommandBounds.{redirected}
use Rattle.sh_rules.specs.Tells.{kind_told}
use Rattle.sh_rules.specs.Walks.{around, setting}
use Rattle.sh_rules.proofs.VisitLemmas.{claims_simple, claims_compound}
use Rattle.sh_visits.proofs.rules.tell_claims.Goals as goal

pub returns-in-Some : goal.returns-in-Some
returns-in-Some g c =
    let x = setting c.args.claims.now in
    claims_simple g.A.Asked.asked x c.args.number (around x.script c.args.around.now) (redirected x c.args.number (redirects_from x.script c.args.redirects.now)) (kind_of x.script c.args.kind.now)
    (elements_from x.script c.in-Some.elements.now) c.is_call-is_call.result (map (text_in x.script) c.texts-texts.result.now)
    (g.A.Asked.kept c.args.asked.now) (g.A.Asked.kept c.tell_simple.new.asked) (c.in-Some.ensures x.script) c.is_call-is_call.ensures c.texts-texts.ensures c.tell_simple.ensures

pub returns-in-None : goal.returns-in-None
unfolding kind_told
returns-in-None g c =
    let x = setting c.args.claims.now in
    claims_compound g.A.Asked.asked x c.args.number (around x.script c.args.around.now) (redirected x c.args.number (redirects_from x.script c.args.redirects.now)) (kind_of x.script c.args.kind.now)
    (g.A.Asked.kept c.args.asked.now) (g.A.Asked.kept c.tell_inside.new.asked) (c.in-None.ensures x.script) c.tell_inside.ensures
