use Rattle.std.proofs.Common.{ℕ, List, [], ◌∷◌, ◌-◌, map, take, drop, length, ap}
use Rattle.std.proofs.lemmas.List.{drop_all}
use Rattle.sh_tree.specs.declared.tree.Element.{Element}
use Rattle.sh_print.specs.Layout.{element_text}
use Rattle.sh_print.specs.Trees.{element_of}
use Rattle.sh_print.proofs.TextLemmas.{first_rest, separated_done}
use Rattle.sh_print.proofs.redirections.push_elements.Goals as goal

pub returns : goal.returns
returns c =
    let xs = c.args.elements.now in
    let rest = take (length xs - 1) (drop 1 xs) in
    let texts : List Element → List (List ℕ) = λ ys. map element_text (map (element_of c.args.script.now) ys) in
    separated_done (32 ∷ []) (texts xs) (texts (drop c.loop-element.element-index rest)) (texts rest) (element_text (element_of c.args.script.now c.first-item.result))
    c.args.out.now.items c.push_element.new.out.items c.loop-element.out.items
    (ap texts (first_rest xs c.first-item.result c.in-len1-up.len_at_least c.first-item.is)) c.in_ok-push_element.ensures
    (ap texts (drop_all c.loop-element.element-index rest c.loop-element-test.false)) c.loop-element.invariant
