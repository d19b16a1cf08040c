use Rattle.std.proofs.lemmas.Result.{err_from_is_err_and}
use Rattle.sh_judged.proofs.CheckLemmas.{certifies}
use Rattle.sh_report.proofs.checks.check_prepared.Goals as goal

pub returns-in_err-certificate : goal.returns-in_err-certificate
returns-in_err-certificate c =
    let p = err_from_is_err_and c.from_residual.result c.from_residual.ensures.1 in
    rw (p.1, p.2) c.in_err-certificate.ensures.answers

pub returns : goal.returns
returns c =
    certifies c.args.script.now c.args.policy.now c.args.text.now c.args.prepared.now c.in_ok-certificate.certificate c.in_ok-verdict.verdict
    c.in_ok-certificate.ensures.answers c.in_ok-verdict.ensures.judges
