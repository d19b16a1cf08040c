use Rattle.std.proofs.Common.{◌≡◌, fold, take, false}
use Rattle.sh_tree.specs.standard.program.Syntax.{Text}
use Rattle.sh_domain.specs.Knowledge.{contains}
use Rattle.sh_rules.specs.Elements as spec
use Rattle.sh_rules.specs.Walks.{setting}
use Rattle.sh_rules.proofs.elements.add_prefixes.Given as goal

-- the names so far
abbrev pub invariant-loop-element : goal.invariant-loop-element
invariant-loop-element l = (t : Text) → contains (setting l.claims).names l.names t ≡ fold (spec.prefix_added (setting l.claims) t) false (take l.element-index l.elements)
