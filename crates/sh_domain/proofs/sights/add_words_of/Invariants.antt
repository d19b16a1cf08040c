use Rattle.std.proofs.Common.{◌≡◌, ◌++◌, drop, map}
use Rattle.std.specs.List.{flat_map}
use Rattle.sh_domain.specs.SightWalks.{listed_word}
use Rattle.sh_domain.proofs.sights.add_words_of.Given as goal

-- the words so far and those of what is left are all
abbrev pub invariant-loop-element : goal.invariant-loop-element
invariant-loop-element l = map (λ w. w.now) l.words.items ++ flat_map listed_word (drop l.element-index l.elements) ≡ map (λ w. w.now) l.initial.words.items ++ flat_map listed_word l.elements
