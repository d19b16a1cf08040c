use Rattle.std.proofs.Common.{◌∙◌, Some, codes, subst, sym}
use Rattle.clap.specs.Words.{found_of, rows_of}
use Rattle.clap.proofs.WalkLemmas.{first_value-rows}
use Rattle.sh_answers.specs.declared.task.Action.{Action}
use Rattle.sh_answers.specs.declared.task.Action.TheVariants.{Check}
use Rattle.sh_line.specs.Line.{HasCertificate, IsCertificateOf}
use Rattle.sh_line.proofs.LineLemmas.{no_certificate}
use Rattle.sh_line.proofs.line.certificate_of.Goals as goal

pub unreachable-requires : goal.unreachable-requires
unreachable-requires c =
    no_certificate (found_of c.args.sub.now) (subst (λ (a : Action). HasCertificate a (rows_of (found_of c.args.sub.now))) c.in-Check.is c.requires) c.in_default.ensures

pub returns-in-Some : goal.returns-in-Some
returns-in-Some c =
    let rows = rows_of (found_of c.args.sub.now) in
    let read : IsCertificateOf Check rows (Some c.source_of.result) =
    (c.in-Some.file.now, sym (first_value-rows (found_of c.args.sub.now) (codes "CERT")) ∙ sym c.in-Some.ensures, c.source_of.ensures)
    in
    subst (λ (a : Action). IsCertificateOf a rows (Some c.source_of.result)) (sym c.in-Check.is) read
