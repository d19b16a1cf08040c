use Rattle.std.proofs.Common.{◌≡◌, fold, take}
use Rattle.sh_rules.specs.Losses.{texts_with, function_lost}
use Rattle.sh_rules.specs.Walks.{facts_in, setting}
use Rattle.sh_visits.proofs.texts.lose_functions.Given as goal

-- what is known so far is what the operands so far leave known
abbrev pub invariant-loop-text : goal.invariant-loop-text
invariant-loop-text l = facts_in (setting l.claims) l.known ≡ fold (texts_with (setting l.claims) (function_lost (setting l.claims))) (facts_in (setting l.claims) l.initial.known) (take l.text-index l.texts)
