use Rattle.sh_drafts.specs.Used.{AreDone, FunctionMoved, IsUsed}
use Rattle.sh_drafts.proofs.used.use_functions.Given as goal

abbrev pub invariant-loop-index : goal.invariant-loop-index
invariant-loop-index l = record {
  used : IsUsed l.rows l.initial.used l.used;
  done : AreDone (FunctionMoved l.rows.rows l.used.rows.rows) l.index l.initial.functions.items l.functions.items;
}
