use Rattle.std.proofs.Common.{◌≡◌, length, map}
use Rattle.sh_runs.specs.standard.runs.Rows.{commands_utility}
use Rattle.sh_table.specs.WordTexts.{text_in}
use Rattle.sh_table.proofs.operands.commands_utility.Given as goal

-- what is left decides
abbrev pub invariant-loop-rest : goal.invariant-loop-rest
invariant-loop-rest l = commands_utility (map (text_in l.script) l.rest) ≡ commands_utility (map (text_in l.script) l.words)

abbrev pub decreases-loop-rest : goal.decreases-loop-rest
decreases-loop-rest l = length l.rest
