use Rattle.std.proofs.Common.{◌≡◌, ◌∷◌, ◌++◌, drop, map}
use Rattle.std.specs.List.{flat_map}
use Rattle.sh_print.specs.Trees.{word_of}
use Rattle.sh_print.proofs.redirections.push_words.Given as goal

abbrev pub invariant-loop-word : goal.invariant-loop-word
invariant-loop-word l =
    l.out.items ++ flat_map (λ t. 32 ∷ t) (map (word_of l.script) (drop l.word-index l.words)) ≡ l.initial.out.items ++ flat_map (λ t. 32 ∷ t) (map (word_of l.script) l.words)
