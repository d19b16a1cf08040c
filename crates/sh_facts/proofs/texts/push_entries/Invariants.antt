use Rattle.std.proofs.Common.{◌≡◌, ◌++◌, take}
use Rattle.sh_domain.specs.Certificates.{in_byte_order, commands_from}
use Rattle.sh_domain.specs.Sheets.{numbered_lines, command_fields}
use Rattle.sh_facts.proofs.texts.push_entries.Given as goal

abbrev pub invariant-loop-entry : goal.invariant-loop-entry
invariant-loop-entry l = record {
  number : l.number ≡ l.entry-index;
  written : l.out.items ≡ l.initial.out.items ++ numbered_lines command_fields 1 (commands_from (in_byte_order l.initial.texts.names) l.certificate 1 (take l.entry-index l.certificate.entries.items));
  same : l.texts ≡ l.initial.texts;
}
