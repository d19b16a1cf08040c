use Rattle.std.proofs.Common.{◌≡◌, length, false, map}
use Rattle.sh_table.specs.WordTexts.{text_in}
use Rattle.sh_runs.specs.ReadOptions.{read_operands}
use Rattle.sh_operands.proofs.options.read_operands.Given as goal

-- what is left decides
abbrev pub invariant-loop-rest : goal.invariant-loop-rest
invariant-loop-rest l = read_operands l.takes (map (text_in l.script) l.rest) ≡ read_operands false (map (text_in l.script) l.texts)

abbrev pub decreases-loop-rest : goal.decreases-loop-rest
decreases-loop-rest l = length l.rest
