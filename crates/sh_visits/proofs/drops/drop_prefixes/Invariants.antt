use Rattle.std.proofs.Common.{◌≡◌, fold, take}
use Rattle.sh_tree.specs.standard.Tree.{text_of}
use Rattle.sh_rules.specs.Reached.{prefix_dropped}
use Rattle.sh_rules.specs.Walks.{facts_in, setting}
use Rattle.sh_visits.proofs.drops.drop_prefixes.Given as goal

-- what is kept so far is what the pieces so far drop
abbrev pub invariant-loop-element : goal.invariant-loop-element
invariant-loop-element g l = g.A.Asked.kept l.asked ≡ fold (prefix_dropped g.A.Asked.asked (setting l.claims) l.number (text_of (setting l.claims).script l.function) (facts_in (setting l.claims) l.known)) (g.A.Asked.kept l.initial.asked) (take l.element-index l.elements)
