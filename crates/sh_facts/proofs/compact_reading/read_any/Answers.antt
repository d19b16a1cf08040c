use Rattle.std.proofs.Common.{◌≡◌, true, false, length, rules}
use Rattle.std.proofs.lemmas.Result.{err_from_is_err_and}
use Rattle.sh_tree.specs.declared.refusal.Refusal.TheVariants.{Memory}
use Rattle.sh_domain.specs.declared.certificate.Certificate.{Certificate}
use Rattle.sh_domain.specs.declared.compact.Compact.{Compact}
use Rattle.sh_domain.specs.declared.compact.Given.{Given}
use Rattle.sh_domain.specs.CompactForms.{is_compact}
use Rattle.sh_domain.specs.CompactReading.{given_rows}
use Rattle.sh_facts.proofs.CompactWholeLemmas.{compact_is_read, compact_read, compact_refused, full_is_read, full_read, full_refused, same_error}
use Rattle.sh_facts.proofs.compact_reading.read_any.Goals as goal

pub returns-in_err-compact-clause-reads : goal.returns-in_err-compact-clause-reads
returns-in_err-compact-clause-reads c =
    let is : is_compact c.args.text.now ≡ true = search rules in
    let p = err_from_is_err_and c.from_residual.result c.from_residual.ensures.1 in
    rw (p.1, p.2) (compact_refused c.args.text.now c.args.tree.now c.args.names.now (length c.args.table.now.functions.names) is _ c.in_err-compact.ensures.reads)

pub returns-then-is_compact-clause-reads : goal.returns-then-is_compact-clause-reads
returns-then-is_compact-clause-reads c =
    compact_read c.args.text.now c.args.tree.now c.args.names.now (length c.args.table.now.functions.names) c.in_ok-compact.compact c.in_ok-compact.ensures.reads

pub returns-then-is_compact-clause-sized : goal.returns-then-is_compact-clause-sized
unfolding given_rows
returns-then-is_compact-clause-sized c = c.in_ok-compact.ensures.sized

pub returns-in_err-certificate-clause-reads : goal.returns-in_err-certificate-clause-reads
returns-in_err-certificate-clause-reads c =
    let is : is_compact c.args.text.now ≡ false = search rules in
    let p = err_from_is_err_and c.from_residual-in_err-certificate.result c.from_residual-in_err-certificate.ensures.1 in
    rw (p.1, p.2) (full_refused c.args.text.now c.args.tree.now c.args.names.now (length c.args.table.now.functions.names) is _ c.in_err-certificate.ensures.reads)

pub returns-clause-reads : goal.returns-clause-reads
returns-clause-reads c =
    full_read c.args.text.now c.args.tree.now c.args.names.now (length c.args.table.now.functions.names) c.in_ok-certificate.certificate c.in_ok-certificate.ensures.reads

pub returns-clause-sized : goal.returns-clause-sized
unfolding given_rows
returns-clause-sized c = c.in_ok-certificate.ensures.sized

pub returns-in_err-compact-clause-memory : goal.returns-in_err-compact-clause-memory
returns-in_err-compact-clause-memory c =
    let is : is_compact c.args.text.now ≡ true = search rules in
    let p = err_from_is_err_and c.from_residual.result c.from_residual.ensures.1 in
    rw (p.1, p.2) (λ e. compact_is_read c.args.text.now is (c.in_err-compact.ensures.memory (same_error Given Compact c.in_err-compact.field-0.0 Memory e)))

pub returns-in_err-certificate-clause-memory : goal.returns-in_err-certificate-clause-memory
returns-in_err-certificate-clause-memory c =
    let is : is_compact c.args.text.now ≡ false = search rules in
    let p = err_from_is_err_and c.from_residual-in_err-certificate.result c.from_residual-in_err-certificate.ensures.1 in
    rw (p.1, p.2) (λ e. full_is_read c.args.text.now is (c.in_err-certificate.ensures.memory (same_error Given Certificate c.in_err-certificate.field-0.0 Memory e)))
