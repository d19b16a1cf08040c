use Rattle.sh_drafts.specs.Used.{AreDone, HeadMoved, IsUsed}
use Rattle.sh_drafts.proofs.used.use_heads.Given as goal

abbrev pub invariant-loop-index : goal.invariant-loop-index
invariant-loop-index l = record {
  used : IsUsed l.rows l.initial.used l.used;
  done : AreDone (HeadMoved l.rows.rows l.used.rows.rows) l.index l.initial.heads.entries l.heads.entries;
}
