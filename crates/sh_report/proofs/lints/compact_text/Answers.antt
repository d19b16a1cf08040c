use Rattle.std.proofs.Common.{◌<◌, ◌≤◌, false, length, refl, sym, subst, arith}
use Rattle.sh_domain.specs.Certificates.{in_byte_order}
use Rattle.sh_domain.specs.Compacts.{compact_claims, compact_text}
use Rattle.sh_domain.specs.declared.limits.TheConstants.{MAX_CERTIFICATE}
use Rattle.sh_report.proofs.LintLemmas.{compact_spelled, few_stated, shown, too_long}
use Rattle.sh_report.proofs.lints.compact_text.Goals as goal

pub is_compact_too_long-requires : goal.is_compact_too_long-requires
is_compact_too_long-requires c = few_stated c.args.script.now c.args.policy.now c.args.prepared.now c.in_ok-compact.compact c.in_ok-compact.ensures

pub write_compact-requires : goal.write_compact-requires
write_compact-requires c = record { functions = few_stated c.args.script.now c.args.policy.now c.args.prepared.now c.in_ok-compact.compact c.in_ok-compact.ensures }

pub returns-then-is_compact_too_long : goal.returns-then-is_compact_too_long
returns-then-is_compact_too_long c =
    let s = c.in_ok-compact.ensures in
    let text = compact_text (compact_claims (in_byte_order c.args.prepared.now.names) c.in_ok-compact.compact) in
    let long : MAX_CERTIFICATE < length text = c.is_compact_too_long.ensures.0 c.if-is_compact_too_long.true in
    too_long c.args.script.now c.args.policy.now c.args.prepared.now c.requires false s.certificate text s.greatest
    (compact_spelled c.args.script.now c.args.policy.now c.args.prepared.now c.requires c.in_ok-compact.compact s text refl) long

pub returns : goal.returns
returns c =
    let s = c.in_ok-compact.ensures in
    let text = compact_text (compact_claims (in_byte_order c.args.prepared.now.names) c.in_ok-compact.compact) in
    let short : length text ≤ MAX_CERTIFICATE = grind (arith, c.is_compact_too_long.ensures.1, c.if-is_compact_too_long.false) in
    let written = c.in_ok-text.ensures.text in
    shown c.args.script.now c.args.policy.now c.args.prepared.now c.requires false s.certificate c.in_ok-text.text s.greatest
    (compact_spelled c.args.script.now c.args.policy.now c.args.prepared.now c.requires c.in_ok-compact.compact s c.in_ok-text.text.items written)
    (subst (λ t. length t ≤ MAX_CERTIFICATE) (sym written) short)
