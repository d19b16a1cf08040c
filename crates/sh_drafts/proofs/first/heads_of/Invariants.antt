use Rattle.std.proofs.Common.{◌≡◌, nat_eq}
use Rattle.indexmap.specs.IndexMap.{get}
use Rattle.sh_domain.specs.Reading.{loops_of}
use Rattle.sh_drafts.specs.First.{AreHeads}
use Rattle.sh_drafts.proofs.first.heads_of.Given as goal

abbrev pub invariant-loop-command : goal.invariant-loop-command
invariant-loop-command l = record {
  number : l.number ≡ l.command-index;
  heads : AreHeads (loops_of l.commands) l.command-index (get nat_eq l.heads);
}
