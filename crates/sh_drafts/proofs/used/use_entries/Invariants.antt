use Rattle.sh_drafts.specs.Used.{AreDone, EntryMoved, IsUsed}
use Rattle.sh_drafts.proofs.used.use_entries.Given as goal

abbrev pub invariant-loop-index : goal.invariant-loop-index
invariant-loop-index l = record {
  used : IsUsed l.rows l.initial.used l.used;
  done : AreDone (EntryMoved l.rows.rows l.used.rows.rows) l.index l.initial.entries.items l.entries.items;
}
