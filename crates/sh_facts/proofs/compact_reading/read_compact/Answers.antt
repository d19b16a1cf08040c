use Rattle.std.proofs.Common.{◌≡◌, ℕ, length, sym, ap, ◌∙◌, subst, arith}
use Rattle.std.proofs.lemmas.List.{length-map}
use Rattle.sh_domain.specs.CompactForms.{read_compact_text}
use Rattle.sh_domain.specs.Reading.{loops_of}
use Rattle.sh_facts.specs.CompactParts.{ReadsCompact}
use Rattle.sh_facts.specs.Fields.{outcome}
use Rattle.sh_facts.proofs.CompactWholeLemmas.{too_long, faulty, has_form, for_script}
use Rattle.sh_facts.proofs.WholeLemmas.{is_read}
use Rattle.sh_facts.proofs.compact_reading.read_compact.Goals as goal

pub returns-then-text-gt-MAX_CERTIFICATE-clause-reads : goal.returns-then-text-gt-MAX_CERTIFICATE-clause-reads
returns-then-text-gt-MAX_CERTIFICATE-clause-reads c = too_long c.args.text.now c.if-text-gt-MAX_CERTIFICATE.true

pub returns-in-Err-clause-reads : goal.returns-in-Err-clause-reads
unfolding outcome
returns-in-Err-clause-reads c = faulty c.args.text.now c.in-Err.line (omega (arith, c.if-text-gt-MAX_CERTIFICATE.false)) c.in-Err.ensures

pub read_lines-requires : goal.read_lines-requires
unfolding outcome
read_lines-requires c = record { form = has_form c.args.text.now (omega (arith, c.if-text-gt-MAX_CERTIFICATE.false)) c.in_default.ensures }

pub returns-clause-reads : goal.returns-clause-reads
returns-clause-reads c =
    let names_are : length c.functions.result.now ≡ length c.args.table.now.functions.names = sym (length-map c.functions.result.now _) ∙ ap length c.functions.ensures.names in
    subst (λ (n : ℕ). ReadsCompact c.args.text.now c.args.tree.now n c.args.names.now c.read_lines.result) names_are
    (for_script c.args.text.now c.args.tree.now c.args.names.now (loops_of c.deref.result.now) (length c.functions.result.now) c.read_lines.result
    (record { commands = c.in_ok-commands.commands.items; all = c.in_ok-commands.ensures.same; ordered = c.in_ok-commands.ensures.ordered; each = ap loops_of c.deref.ensures.value }) c.read_lines.ensures.reads)

pub returns-in_err-commands-clause-memory : goal.returns-in_err-commands-clause-memory
unfolding outcome
returns-in_err-commands-clause-memory c = λ e. is_read (read_compact_text c.args.text.now) (has_form c.args.text.now (omega (arith, c.if-text-gt-MAX_CERTIFICATE.false)) c.in_default.ensures)

pub returns-clause-memory : goal.returns-clause-memory
unfolding outcome
returns-clause-memory c = λ e. is_read (read_compact_text c.args.text.now) (has_form c.args.text.now (omega (arith, c.if-text-gt-MAX_CERTIFICATE.false)) c.in_default.ensures)
