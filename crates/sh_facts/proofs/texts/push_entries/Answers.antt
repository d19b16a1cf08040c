use Rattle.std.proofs.Common.{◌≡◌, ◌+◌, ◌<◌, ◌++◌, List, length, get_or, refl, ap, ◌∙◌, subst, rules}
use Rattle.std.specs.Option.{option_copied}
use Rattle.sh_domain.specs.declared.certificate.Entry.{Entry}
use Rattle.sh_domain.specs.declared.certificate.Facts.TheVariants.{NotReached}
use Rattle.sh_domain.specs.Certificates.{in_byte_order, command_claims, commands_from}
use Rattle.sh_domain.specs.KeptRows.{KeptRows}
use Rattle.sh_domain.specs.Sheets.{line, command_fields, numbered_lines}
use Rattle.sh_domain.proofs.WritingLemmas.{commands_written}
use Rattle.sh_facts.specs.RowTexts.{NamedRows}
use Rattle.sh_facts.proofs.texts.push_entries.Goals as goal

pub loop-entry-init : goal.loop-entry-init
unfolding commands_from numbered_lines
loop-entry-init c = record { number = refl; written = search rules; same = refl }

pub loop-entry-preserved : goal.loop-entry-preserved
loop-entry-preserved c =
    let es = c.args.certificate.now.entries.items in
    let i = c.loop-entry.entry-index in
    let d : Entry = record { before = NotReached; zero = NotReached; nonzero = NotReached } in
    let lt : i < length es = subst (λ (xs : List Entry). i < length xs) c.deref-entry-items.ensures.value c.loop-entry-test.true in
    let e : Entry = get_or c.deref-entry-items.result.now i d in
    let f : e ≡ get_or es i d = ap (λ (xs : List Entry). get_or xs i d) c.deref-entry-items.ensures.value in
    let m : c.loop-entry.number + 1 ≡ i + 1 = ap (λ n. n + 1) c.loop-entry.invariant.number in
    let head = option_copied c.head-head.result in
    let claims = λ (t : NamedRows). c.loop-entry.out.items ++ line (command_fields (c.loop-entry.number + 1) (command_claims (in_byte_order t.names) t.rows e head)) in
    let with_rows = λ (r : KeptRows). c.loop-entry.out.items ++ line (command_fields (c.loop-entry.number + 1) (command_claims (in_byte_order c.args.texts.now.names) r e head)) in
    record {
      number = m;
      written = commands_written (in_byte_order c.args.texts.now.names) c.args.certificate.now es i (c.loop-entry.number + 1) e d head c.args.out.now.items c.loop-entry.out.items c.push_entry.new.out.items lt f m
          c.head-head.ensures c.loop-entry.invariant.written (c.in_ok-push_entry.ensures.text ∙ ap claims c.loop-entry.invariant.same ∙ ap with_rows c.requires.rows);
      same = c.push_entry.ensures.same ∙ c.loop-entry.invariant.same;
    }
