use Rattle.std.proofs.Common.{◌≡◌, fold, take}
use Rattle.sh_rules.specs.Tells as tells
use Rattle.sh_rules.specs.Walks.{facts_in, setting}
use Rattle.sh_visits.proofs.bounds.gain_words.Given as goal

-- what is known so far is what the words so far leave known
abbrev pub invariant-loop-word : goal.invariant-loop-word
invariant-loop-word l = facts_in (setting l.claims) l.known ≡ fold (tells.word_gained (setting l.claims)) (facts_in (setting l.claims) l.initial.known) (take l.word-index l.words)
