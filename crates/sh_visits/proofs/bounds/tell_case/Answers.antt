use Rattle.sh_domain.specs.declared.knowledge.Knowledge.TheVariants as knowledge
use Rattle.sh_rules.specs.Walks.{facts_in, setting}
use Rattle.sh_rules.proofs.BehindLemmas.{nothing_known}
use Rattle.sh_rules.proofs.TellLemmas.{case_told}
use Rattle.sh_visits.proofs.bounds.tell_case.Goals as goal

pub returns : goal.returns
unfolding setting
returns g c =
    let x = setting c.args.claims.now in
    case_told g.A.Asked.asked x c.args.number (facts_in x c.args.behind.now) c.args.clauses.now (g.A.Asked.kept c.args.asked.now) (g.A.Asked.kept c.tell_clauses.new.asked) (g.A.Asked.kept c.tell_unmatched.new.asked)
    c.matches_always-always.result (facts_in x c.tell_clauses.new.fallen) (facts_in x knowledge.NotReached)
    c.tell_unmatched.ensures c.matches_always-always.ensures c.tell_clauses.ensures (nothing_known x)
