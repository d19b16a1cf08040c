use Rattle.std.proofs.Common.{◌≡◌, fold, take}
use Rattle.sh_gains.specs.Knowing.{known_of}
use Rattle.sh_gains.specs.Walks as walks
use Rattle.sh_gains.proofs.gains.gain_each_word.Given as goal

-- what is known so far is what the pieces so far leave known
abbrev pub invariant-loop-word : goal.invariant-loop-word
invariant-loop-word l = known_of l.names l.known ≡ fold (walks.word_gained l.script) (known_of l.names l.initial.known) (take l.word-index l.words)
