use Rattle.std.proofs.Common.{◌∙◌}
use Rattle.sh_rules.specs.Walked.{trail}
use Rattle.sh_rules.specs.Walks.{facts_in, setting}
use Rattle.sh_rules.proofs.TellLemmas.{clause_through, clauses_done}
use Rattle.sh_visits.proofs.bounds.tell_clauses.Goals as goal

pub loop-rest-preserved : goal.loop-rest-preserved
loop-rest-preserved g c =
    let x = setting c.args.claims.now in
    clause_through g.A.Asked.asked x c.args.number (facts_in x c.args.behind.now) (trail (facts_in x c.loop-rest.fallen) (g.A.Asked.kept c.loop-rest.asked))
    (trail (facts_in x c.go_through.new.fallen) (g.A.Asked.kept c.go_through.new.asked)) c.ends_case-is_last.result c.loop-rest.rest.now c.clause-item.result
    c.in-len1-up.len_at_least c.clause-item.is c.ends_case-is_last.ensures c.go_through.ensures
    ∙ c.loop-rest.invariant

pub returns : goal.returns
returns g c =
    let x = setting c.args.claims.now in
    clauses_done g.A.Asked.asked x c.args.number (facts_in x c.args.behind.now) (trail (facts_in x c.loop-rest.fallen) (g.A.Asked.kept c.loop-rest.asked)) c.loop-rest.rest.now c.in_default.len_below
    ∙ c.loop-rest.invariant
