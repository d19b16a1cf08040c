use Rattle.std.proofs.Common.{◌≡◌, nat_eq}
use Rattle.indexmap.specs.IndexMap.{get}
use Rattle.sh_facts.proofs.CertificateLemmas.{InCommands}
use Rattle.sh_facts.proofs.reading.read_commands.Given as goal

-- so many lines are read
abbrev pub invariant-loop-command : goal.invariant-loop-command
invariant-loop-command l = record {
  number : l.number ≡ l.command-index;
  read : InCommands l.names l.commands l.text l.command-index l.left l.rows l.entries.items (get nat_eq l.heads);
}
