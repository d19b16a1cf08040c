use Rattle.std.proofs.Common.{◌≡◌, [], ◌∷◌, ◌++◌, drop, map}
use Rattle.std.specs.List.{flat_map}
use Rattle.sh_print.specs.Layout.{element_text}
use Rattle.sh_print.specs.Trees.{element_of}
use Rattle.sh_print.proofs.redirections.push_elements.Given as goal

abbrev pub invariant-loop-element : goal.invariant-loop-element
invariant-loop-element l =
    l.out.items ++ flat_map (λ t. (32 ∷ []) ++ t) (map element_text (map (element_of l.script) (drop l.element-index l.others)))
    ≡ l.initial.out.items ++ flat_map (λ t. (32 ∷ []) ++ t) (map element_text (map (element_of l.script) l.others))
