use Rattle.std.proofs.Common.{◌≡◌, ◌++◌, take}
use Rattle.sh_domain.specs.Certificates.{in_byte_order}
use Rattle.sh_domain.specs.Compacts.{turn_lines, turns_of}
use Rattle.sh_facts.proofs.compact_texts.push_turns.Given as goal

abbrev pub invariant-loop-index : goal.invariant-loop-index
invariant-loop-index l = record {
  written : l.out.items ≡ l.initial.out.items ++ turn_lines (turns_of (in_byte_order l.initial.texts.names) l.initial.texts.rows (take l.index l.compact.heads.entries));
  same : l.texts ≡ l.initial.texts;
}
