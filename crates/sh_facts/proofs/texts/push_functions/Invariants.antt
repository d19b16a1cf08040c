use Rattle.std.proofs.Common.{◌≡◌, ◌++◌, take, map}
use Rattle.sh_domain.specs.Certificates.{in_byte_order, function_claims}
use Rattle.sh_domain.specs.Sheets.{numbered_lines, function_fields}
use Rattle.sh_facts.proofs.texts.push_functions.Given as goal

abbrev pub invariant-loop-entry : goal.invariant-loop-entry
invariant-loop-entry l = record {
  number : l.number ≡ l.entry-index;
  written : l.out.items ≡ l.initial.out.items ++ numbered_lines function_fields 1 (map (function_claims (in_byte_order l.initial.texts.names) l.initial.texts.rows) (take l.entry-index l.functions));
  same : l.texts ≡ l.initial.texts;
}
