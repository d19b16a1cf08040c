use Rattle.std.proofs.Common.{◌≡◌, ◌++◌, List, length, map, ap, ap₂, ◌∙◌, rules}
use Rattle.sh_domain.specs.declared.certificate.FunctionEntry.{FunctionEntry}
use Rattle.sh_domain.specs.Certificates.{claim_of, in_byte_order, function_claims}
use Rattle.sh_domain.specs.CompactForms.{read_compact_sheet}
use Rattle.sh_domain.specs.Compacts.{compact_counts, start_fields, turn_lines, turns_of}
use Rattle.sh_domain.specs.Sheets.{numbered_lines, line, function_fields}
use Rattle.sh_domain.proofs.CompactRoundTripLemmas.{written_compact_reads_back}
use Rattle.sh_facts.specs.RowTexts.{NamedRows}
use Rattle.sh_facts.proofs.CompactTextLemmas.{compact_written}
use Rattle.sh_facts.proofs.compact_texts.write_compact.Goals as goal

pub returns-clause-text : goal.returns-clause-text
returns-clause-text c =
    let compact = c.args.compact.now in
    let order = in_byte_order c.args.names.now in
    let functions : c.len.result ≡ length compact.functions.items = search rules in
    let heads : c.len-2.result ≡ length compact.heads.entries = search rules in
    let start_line = λ (t : NamedRows). c.push_counts.new.out.items ++ line (start_fields (claim_of (in_byte_order t.names) t.rows compact.start)) in
    let turns = λ (t : NamedRows). c.push_start.new.out.items ++ turn_lines (turns_of (in_byte_order t.names) t.rows compact.heads.entries) in
    let lines_of = λ (fs : List FunctionEntry) (t : NamedRows). c.push_turns.new.out.items ++ numbered_lines function_fields 1 (map (function_claims (in_byte_order t.names) t.rows) fs) in
    let started = c.push_start.ensures.same ∙ c.new-texts.ensures in
    compact_written order compact c.new-out.result.items c.push_first.new.out.items c.push_counts.new.out.items c.push_start.new.out.items c.push_turns.new.out.items c.push_functions.new.out.items
    c.new-out.ensures.items c.in_ok-push_first.ensures
    (c.in_ok-push_counts.ensures ∙ ap₂ (λ m l. c.push_first.new.out.items ++ line (compact_counts compact.commands m l)) functions heads)
    (c.in_ok-push_start.ensures.text ∙ ap start_line c.new-texts.ensures)
    (c.in_ok-push_turns.ensures.text ∙ ap turns started)
    (c.in_ok-push_functions.ensures.text ∙ ap₂ lines_of c.deref.ensures.value (c.push_turns.ensures.same ∙ started))

pub returns-clause-back : goal.returns-clause-back
returns-clause-back c = λ h. ap read_compact_sheet (returns-clause-text c) ∙ written_compact_reads_back.back c.args.names.now c.args.compact.now h
