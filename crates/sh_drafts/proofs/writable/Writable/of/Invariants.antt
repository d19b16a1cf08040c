use Rattle.sh_drafts.specs.Writable.{HasWritable, IsWritten, sets_in}
use Rattle.sh_drafts.proofs.writable.Writable.of.Given as goal

abbrev pub invariant-loop-number : goal.invariant-loop-number
invariant-loop-number l = record {
  written : IsWritten l.names (sets_in l.vars l.functions);
  all : HasWritable l.names l.number (sets_in l.vars l.functions);
}
