use Rattle.sh_quote.proofs.WholeLemmas.{begins, places_whole, some_whole}
use Rattle.sh_quote.proofs.places.check_quotes.Goals as goal

pub returns-then-unquoted-clause-memory : goal.returns-then-unquoted-clause-memory
returns-then-unquoted-clause-memory c =
    some_whole c.args.script.now c.args.tree.now c.args.calls.now c.walk.new.visitor.calls.now c.steady_ifs.result c.walk.new.visitor.steady c.walk.new.visitor.is_short
    c.new.result.items c.walk.new.visitor.places.items c.requires.table c.requires.numbered c.steady_ifs.ensures c.new.ensures.items (c.in-Ok.ensures _ (begins _))
    c.if-unquoted.true

pub returns-else-unquoted-clause-places : goal.returns-else-unquoted-clause-places
returns-else-unquoted-clause-places c =
    places_whole c.args.script.now c.args.tree.now c.args.calls.now c.walk.new.visitor.calls.now c.steady_ifs.result c.walk.new.visitor.steady c.walk.new.visitor.is_short
    c.new.result.items c.walk.new.visitor.places.items c.requires.table c.requires.numbered c.steady_ifs.ensures c.new.ensures.items (c.in-Ok.ensures _ (begins _))
    c.if-unquoted.false
