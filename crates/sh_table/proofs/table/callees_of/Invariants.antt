use Rattle.std.proofs.Common.{◌≡◌, map, take}
use Rattle.sh_table.specs.KeptTable.{callee_in}
use Rattle.sh_table.proofs.table.callees_of.Given as goal

-- the functions that the rows so far call
abbrev pub invariant-loop-row : goal.invariant-loop-row
invariant-loop-row l = l.callees.items ≡ map (callee_in l.script l.functions.names) (take l.row-index l.rows)
