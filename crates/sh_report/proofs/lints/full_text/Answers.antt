use Rattle.std.proofs.Common.{◌<◌, ◌≤◌, true, length, refl, sym, subst, arith}
use Rattle.sh_domain.specs.Sheets.{certificate_text}
use Rattle.sh_domain.specs.declared.limits.TheConstants.{MAX_CERTIFICATE}
use Rattle.sh_judged.specs.Prepared.{sheet_in}
use Rattle.sh_report.proofs.LintLemmas.{few_commands, few_functions, full_spelled, shown, too_long}
use Rattle.sh_report.proofs.lints.full_text.Goals as goal

pub is_too_long-requires-clause-commands : goal.is_too_long-requires-clause-commands
is_too_long-requires-clause-commands c = few_commands c.args.script.now c.args.policy.now c.args.prepared.now c.in_ok-certificate.certificate c.in_ok-certificate.ensures.greatest

pub is_too_long-requires-clause-functions : goal.is_too_long-requires-clause-functions
is_too_long-requires-clause-functions c = few_functions c.args.script.now c.args.policy.now c.args.prepared.now c.in_ok-certificate.certificate c.in_ok-certificate.ensures.greatest

pub write_certificate-requires-clause-commands : goal.write_certificate-requires-clause-commands
write_certificate-requires-clause-commands c = few_commands c.args.script.now c.args.policy.now c.args.prepared.now c.in_ok-certificate.certificate c.in_ok-certificate.ensures.greatest

pub write_certificate-requires-clause-functions : goal.write_certificate-requires-clause-functions
write_certificate-requires-clause-functions c = few_functions c.args.script.now c.args.policy.now c.args.prepared.now c.in_ok-certificate.certificate c.in_ok-certificate.ensures.greatest

pub returns-then-is_too_long : goal.returns-then-is_too_long
returns-then-is_too_long c =
    let z = c.in_ok-certificate.certificate in
    let text = certificate_text (sheet_in c.args.prepared.now z) in
    let long : MAX_CERTIFICATE < length text = c.is_too_long.ensures.0 c.if-is_too_long.true in
    too_long c.args.script.now c.args.policy.now c.args.prepared.now c.requires true (sheet_in c.args.prepared.now z) text c.in_ok-certificate.ensures.greatest
    (full_spelled c.args.script.now c.args.policy.now c.args.prepared.now c.requires z text refl) long

pub returns : goal.returns
returns c =
    let z = c.in_ok-certificate.certificate in
    let text = certificate_text (sheet_in c.args.prepared.now z) in
    let short : length text ≤ MAX_CERTIFICATE = grind (arith, c.is_too_long.ensures.1, c.if-is_too_long.false) in
    let written = c.in_ok-text.ensures.text in
    shown c.args.script.now c.args.policy.now c.args.prepared.now c.requires true (sheet_in c.args.prepared.now z) c.in_ok-text.text c.in_ok-certificate.ensures.greatest
    (full_spelled c.args.script.now c.args.policy.now c.args.prepared.now c.requires z c.in_ok-text.text.items written) (subst (λ t. length t ≤ MAX_CERTIFICATE) (sym written) short)
