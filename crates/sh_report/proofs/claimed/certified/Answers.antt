use Rattle.std.proofs.Common.{length}
use Rattle.std.proofs.lemmas.Result.{err_from_is_err_and}
use Rattle.sh_tree.specs.declared.refusal.Refusal.TheVariants.{Memory}
use Rattle.sh_domain.specs.declared.certificate.Certificate.{Certificate}
use Rattle.sh_domain.specs.declared.compact.Given.{Given}
use Rattle.sh_facts.proofs.CompactWholeLemmas.{same_error}
use Rattle.sh_report.proofs.CertificateLemmas.{has_form}
use Rattle.sh_report.proofs.claimed.certified.Goals as goal

pub returns-in_err-given-clause-memory : goal.returns-in_err-given-clause-memory
returns-in_err-given-clause-memory c =
    let p = err_from_is_err_and c.from_residual.result c.from_residual.ensures.1 in
    rw (p.1, p.2) (λ e. c.in_err-given.ensures.memory (same_error Certificate Given c.in_err-given.field-0.0 Memory e))

pub returns-in_err-certificate-clause-memory : goal.returns-in_err-certificate-clause-memory
returns-in_err-certificate-clause-memory c =
    λ e. has_form c.args.text.now c.args.prepared.now.tree (length c.args.prepared.now.table.functions.names) c.args.prepared.now.names c.in_ok-given.given c.in_ok-given.ensures.reads
