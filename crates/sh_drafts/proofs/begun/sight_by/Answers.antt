use Rattle.sh_drafts.specs.Kept.{IsNamed, seen_of}
use Rattle.sh_drafts.proofs.begun.sight_by.Goals as goal

pub returns-in-NotReached-clause-named : goal.returns-in-NotReached-clause-named
unfolding IsNamed seen_of
returns-in-NotReached-clause-named c = tt

pub returns-in-Known-clause-named : goal.returns-in-Known-clause-named
unfolding IsNamed seen_of
returns-in-Known-clause-named c = record { vars = c.numbers_in-vars.ensures.below; functions = c.numbers_in-functions.ensures.below }
