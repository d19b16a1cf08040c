use Rattle.std.proofs.Common.{◌≡◌, ◌++◌, ◌∷◌, length}
use Rattle.sh_tree.specs.standard.language.Bytes.{longest}
use Rattle.sh_scan.specs.Tables.{texts_of}
use Rattle.sh_scan.proofs.arithmetic.operators.longest.Given as goal

-- the rows so far are none
abbrev pub invariant-loop-table : goal.invariant-loop-table
invariant-loop-table l = longest (texts_of l.table) (l.first ∷ (l.others ++ l.rest)) ≡ longest (texts_of l.initial.table) (l.first ∷ (l.others ++ l.rest))

abbrev pub decreases-loop-table : goal.decreases-loop-table
decreases-loop-table l = length l.table
