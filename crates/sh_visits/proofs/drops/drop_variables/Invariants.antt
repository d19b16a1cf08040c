use Rattle.std.proofs.Common.{◌≡◌, fold, take}
use Rattle.sh_tree.specs.standard.Tree.{text_of}
use Rattle.sh_rules.specs.Losses.{texts_with}
use Rattle.sh_rules.specs.Reached.{variable_dropped}
use Rattle.sh_rules.specs.Walks.{setting}
use Rattle.sh_visits.proofs.drops.drop_variables.Given as goal

-- what is kept so far is what the pieces so far drop
abbrev pub invariant-loop-text : goal.invariant-loop-text
invariant-loop-text g l = g.A.Asked.kept l.asked ≡ fold (texts_with (setting l.claims) (variable_dropped g.A.Asked.asked (setting l.claims) l.number (text_of (setting l.claims).script l.function))) (g.A.Asked.kept l.initial.asked) (take l.text-index l.texts)
