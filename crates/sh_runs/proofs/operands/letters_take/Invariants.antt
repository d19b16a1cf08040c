use Rattle.std.proofs.Common.{◌≡◌, length}
use Rattle.sh_runs.specs.standard.runs.Operands.{read_option}
use Rattle.sh_runs.proofs.operands.letters_take.Given as goal

-- the letters so far are `r`
abbrev pub invariant-loop-letters : goal.invariant-loop-letters
invariant-loop-letters l = read_option l.letters ≡ read_option l.initial.letters

abbrev pub decreases-loop-letters : goal.decreases-loop-letters
decreases-loop-letters l = length l.letters
