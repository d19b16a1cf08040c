use Rattle.std.proofs.Common.{◌≡◌, ◌+◌}
use Rattle.sh_domain.specs.Certificates.{in_byte_order}
use Rattle.sh_facts.proofs.LengthLemmas.{commands_bytes}
use Rattle.sh_facts.proofs.length.room_after_entries.Given as goal

abbrev pub invariant-loop-entry : goal.invariant-loop-entry
invariant-loop-entry l = record {
  number : l.number ≡ l.entry-index;
  left : l.left + commands_bytes (in_byte_order l.names) l.certificate 0 ≡ l.fn.room + commands_bytes (in_byte_order l.names) l.certificate l.entry-index;
}
