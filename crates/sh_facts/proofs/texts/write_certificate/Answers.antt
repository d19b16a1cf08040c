use Rattle.std.proofs.Common.{◌≡◌, ◌++◌, List, length, map, ap, ap₂, ◌∙◌, rules}
use Rattle.sh_domain.specs.declared.certificate.FunctionEntry.{FunctionEntry}
use Rattle.sh_domain.specs.Certificates.{commands_from, in_byte_order, function_claims}
use Rattle.sh_domain.specs.Forms.{read_sheet}
use Rattle.sh_domain.specs.Sheets.{numbered_lines, line, command_fields, function_fields, count_fields}
use Rattle.sh_domain.proofs.RoundTripLemmas.{written_reads_back}
use Rattle.sh_domain.proofs.WritingLemmas.{all_written}
use Rattle.sh_facts.specs.RowTexts.{NamedRows}
use Rattle.sh_facts.proofs.texts.write_certificate.Goals as goal

pub push_entries-requires : goal.push_entries-requires
push_entries-requires c = record { few = c.requires.commands; rows = ap (λ (t : NamedRows). t.rows) c.new-texts.ensures }

pub returns-clause-text : goal.returns-clause-text
returns-clause-text c =
    let certificate = c.args.certificate.now in
    let order = in_byte_order c.args.names.now in
    let es = certificate.entries.items in
    let commands : c.len.result ≡ length es = search rules in
    let functions : c.len-2.result ≡ length certificate.functions.items = search rules in
    let entry_lines = λ (t : NamedRows). c.push_counts.new.out.items ++ numbered_lines command_fields 1 (commands_from (in_byte_order t.names) certificate 1 es) in
    let lines_of = λ (fs : List FunctionEntry) (t : NamedRows). c.push_entries.new.out.items ++ numbered_lines function_fields 1 (map (function_claims (in_byte_order t.names) t.rows) fs) in
    all_written order certificate c.new-out.result.items c.push_first.new.out.items c.push_counts.new.out.items c.push_entries.new.out.items c.push_functions.new.out.items
    c.new-out.ensures.items c.in_ok-push_first.ensures
    (c.in_ok-push_counts.ensures ∙ ap₂ (λ n m. c.push_first.new.out.items ++ line (count_fields n m)) commands functions)
    (c.in_ok-push_entries.ensures.text ∙ ap entry_lines c.new-texts.ensures)
    (c.in_ok-push_functions.ensures.text ∙ ap₂ lines_of c.deref.ensures.value (c.push_entries.ensures.same ∙ c.new-texts.ensures))

pub returns-clause-back : goal.returns-clause-back
returns-clause-back c = λ h. ap read_sheet (returns-clause-text c) ∙ written_reads_back.back c.args.names.now c.args.certificate.now h
