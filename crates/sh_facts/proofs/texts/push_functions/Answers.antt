use Rattle.std.proofs.Common.{◌≡◌, ◌+◌, ◌++◌, get_or, refl, ap, ◌∙◌, rules}
use Rattle.sh_domain.specs.Certificates.{in_byte_order, function_claims}
use Rattle.sh_domain.specs.declared.certificate.FunctionEntry.{FunctionEntry}
use Rattle.sh_domain.specs.declared.certificate.Facts.TheVariants.{NotReached}
use Rattle.sh_domain.specs.Sheets.{line, function_fields, numbered_lines}
use Rattle.sh_domain.proofs.WritingLemmas.{functions_written}
use Rattle.sh_facts.specs.RowTexts.{NamedRows}
use Rattle.sh_facts.proofs.texts.push_functions.Goals as goal

pub loop-entry-init : goal.loop-entry-init
unfolding numbered_lines
loop-entry-init c = record { number = refl; written = search rules; same = refl }

pub loop-entry-preserved : goal.loop-entry-preserved
loop-entry-preserved c =
    let es = c.args.functions.now in
    let i = c.loop-entry.entry-index in
    let d : FunctionEntry = record { before = NotReached; drops = record { vars = record { index = 0 }; functions = record { index = 0 } }; zero = NotReached; nonzero = NotReached } in
    let m : c.loop-entry.number + 1 ≡ i + 1 = ap (λ n. n + 1) c.loop-entry.invariant.number in
    let claims = λ (t : NamedRows). c.loop-entry.out.items ++ line (function_fields (c.loop-entry.number + 1) (function_claims (in_byte_order t.names) t.rows (get_or es i d))) in
    record {
      number = m;
      written = functions_written (in_byte_order c.args.texts.now.names) c.args.texts.now.rows es i (c.loop-entry.number + 1) (get_or es i d) d c.args.out.now.items c.loop-entry.out.items c.push_function.new.out.items
          c.loop-entry-test.true refl m c.loop-entry.invariant.written (c.in_ok-push_function.ensures.text ∙ ap claims c.loop-entry.invariant.same);
      same = c.push_function.ensures.same ∙ c.loop-entry.invariant.same;
    }
