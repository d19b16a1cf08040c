use Rattle.sh_report.proofs.LintLemmas.{judged_greatest}
use Rattle.sh_report.proofs.lints.lint_prepared.Goals as goal

pub judged_kept-requires : goal.judged_kept-requires
judged_kept-requires c = (c.args.policy.now, c.requires, c.in_ok-certificate.ensures.greatest.rules)

pub returns : goal.returns
returns c =
    judged_greatest c.args.script.now c.args.policy.now c.args.prepared.now c.requires c.in_ok-certificate.certificate c.judged_kept.result c.in_ok-certificate.ensures.greatest
    c.judged_kept.ensures.reports
