use Rattle.std.proofs.Common.{◌≡◌, ◌++◌, drop}
use Rattle.std.specs.List.{flat_map}
use Rattle.sh_quote.specs.Unquoted.{word_told}
use Rattle.sh_quote.proofs.unquoted.add_words.Given as goal

-- the places so far and those that are left are all
abbrev pub invariant-loop-word : goal.invariant-loop-word
invariant-loop-word l = l.places.items ++ flat_map (word_told l.script l.steady) (drop l.word-index l.words) ≡ l.initial.places.items ++ flat_map (word_told l.script l.steady) l.words
