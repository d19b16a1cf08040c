use Rattle.sh_rules.proofs.VisitLemmas.{none_redirected, some_redirected}
use Rattle.sh_visits.proofs.rules.is_redirected.Goals as goal

pub returns-in-empty : goal.returns-in-empty
returns-in-empty c = λ b. none_redirected b c.args.redirects.now c.in-empty.len_below

pub returns-in-len1-up : goal.returns-in-len1-up
returns-in-len1-up c = λ b. some_redirected b c.args.redirects.now c.in-len1-up.len_at_least
