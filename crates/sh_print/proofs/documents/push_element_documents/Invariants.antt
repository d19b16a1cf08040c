use Rattle.std.proofs.Common.{◌≡◌, ◌++◌, drop, map}
use Rattle.std.specs.List.{flat_map}
use Rattle.sh_print.specs.Layout.{element_documents}
use Rattle.sh_print.specs.Pending.{pending_text}
use Rattle.sh_print.specs.Trees.{element_of}
use Rattle.sh_print.proofs.documents.push_element_documents.Given as goal

abbrev pub invariant-loop-element : goal.invariant-loop-element
invariant-loop-element l =
    l.out.items ++ pending_text (flat_map element_documents (map (element_of l.script) (drop l.element-index l.elements)))
    ≡ l.initial.out.items ++ pending_text (flat_map element_documents (map (element_of l.script) l.elements))
