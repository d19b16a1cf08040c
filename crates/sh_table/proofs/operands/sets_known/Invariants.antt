use Rattle.std.proofs.Common.{◌≡◌, length, false, map}
use Rattle.sh_runs.specs.Profile.{sets_known}
use Rattle.sh_table.specs.WordTexts.{text_in}
use Rattle.sh_table.proofs.operands.sets_known.Given as goal

-- what is left decides
abbrev pub invariant-loop-rest : goal.invariant-loop-rest
invariant-loop-rest l = sets_known l.takes (map (text_in l.script) l.rest) ≡ sets_known false (map (text_in l.script) l.words)

abbrev pub decreases-loop-rest : goal.decreases-loop-rest
decreases-loop-rest l = length l.rest
