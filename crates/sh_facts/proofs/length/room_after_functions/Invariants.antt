use Rattle.std.proofs.Common.{◌≡◌, ◌+◌}
use Rattle.sh_domain.specs.Certificates.{in_byte_order}
use Rattle.sh_facts.proofs.LengthLemmas.{functions_bytes}
use Rattle.sh_facts.proofs.length.room_after_functions.Given as goal

abbrev pub invariant-loop-entry : goal.invariant-loop-entry
invariant-loop-entry l = record {
  number : l.number ≡ l.entry-index;
  left : l.left + functions_bytes (in_byte_order l.names) l.rows l.functions 0 ≡ l.fn.room + functions_bytes (in_byte_order l.names) l.rows l.functions l.entry-index;
}
