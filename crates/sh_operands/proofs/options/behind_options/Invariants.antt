use Rattle.std.proofs.Common.{◌≡◌, length, map}
use Rattle.sh_table.specs.WordTexts.{text_in}
use Rattle.sh_operands.specs.Texts.{unset_behind}
use Rattle.sh_operands.proofs.options.behind_options.Given as goal

-- what is left decides
abbrev pub invariant-loop-rest : goal.invariant-loop-rest
invariant-loop-rest l = unset_behind l.letters (map (text_in l.script) l.rest) ≡ unset_behind l.initial.letters (map (text_in l.script) l.operands)

abbrev pub decreases-loop-rest : goal.decreases-loop-rest
decreases-loop-rest l = length l.rest
