use Rattle.std.proofs.Common.{◌≡◌, length}
use Rattle.sh_rules.specs.Tells as tells
use Rattle.sh_rules.specs.Walked.{trail}
use Rattle.sh_rules.specs.Walks.{facts_in, setting}
use Rattle.sh_visits.proofs.bounds.tell_clauses.Given as goal

-- what is left to require, after what is required so far, is all
abbrev pub invariant-loop-rest : goal.invariant-loop-rest
invariant-loop-rest g l =
    tells.clauses_left g.A.Asked.asked (setting l.claims) l.number (facts_in (setting l.claims) l.behind) (trail (facts_in (setting l.claims) l.fallen) (g.A.Asked.kept l.asked)) l.rest
    ≡ tells.clauses_left g.A.Asked.asked (setting l.claims) l.number (facts_in (setting l.claims) l.behind) (trail (facts_in (setting l.claims) l.initial.fallen) (g.A.Asked.kept l.initial.asked)) l.initial.rest

abbrev pub decreases-loop-rest : goal.decreases-loop-rest
decreases-loop-rest g l = length l.rest
