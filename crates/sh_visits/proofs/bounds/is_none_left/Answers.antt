use Rattle.sh_rules.proofs.TellLemmas.{none_left, some_left}
use Rattle.sh_visits.proofs.bounds.is_none_left.Goals as goal

pub returns-in-empty : goal.returns-in-empty
returns-in-empty c = λ b. none_left b c.args.rest.now c.in-empty.len_below

pub returns-in-len1-up : goal.returns-in-len1-up
returns-in-len1-up c = λ b. some_left b c.args.rest.now c.in-len1-up.len_at_least
