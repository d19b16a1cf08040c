use Rattle.std.proofs.Common.{◌≡◌, fold, take}
use Rattle.sh_rules.specs.Tells as tells
use Rattle.sh_rules.specs.Walked.{trail}
use Rattle.sh_rules.specs.Walks.{facts_in, setting}
use Rattle.sh_visits.proofs.bounds.tell_branches.Given as goal

-- what is known and kept so far is by the branches so far
abbrev pub invariant-loop-branch : goal.invariant-loop-branch
invariant-loop-branch g l = trail (facts_in (setting l.claims) l.known) (g.A.Asked.kept l.asked) ≡ fold (tells.branch_told g.A.Asked.asked (setting l.claims) l.number) (trail (facts_in (setting l.claims) l.initial.known) (g.A.Asked.kept l.initial.asked)) (take l.branch-index l.branches)
