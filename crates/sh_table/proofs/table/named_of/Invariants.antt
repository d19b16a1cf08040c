use Rattle.std.specs.List.{All}
use Rattle.sh_table.specs.KeptTable.{IsNamed}
use Rattle.sh_table.proofs.table.named_of.Given as goal

-- each so far has its place
abbrev pub invariant-loop-definition : goal.invariant-loop-definition
invariant-loop-definition l = All (IsNamed l.script l.functions.names) l.named.items
