use Rattle.std.proofs.Common.{◌≡◌, ◌++◌, drop, map, codes}
use Rattle.std.specs.List.{flat_map}
use Rattle.sh_print.specs.Trees.{word_of}
use Rattle.sh_print.proofs.redirections.push_patterns.Given as goal

abbrev pub invariant-loop-pattern : goal.invariant-loop-pattern
invariant-loop-pattern l =
    l.out.items ++ flat_map (λ t. codes " | " ++ t) (map (word_of l.script) (drop l.pattern-index l.others))
    ≡ l.initial.out.items ++ flat_map (λ t. codes " | " ++ t) (map (word_of l.script) l.others)
