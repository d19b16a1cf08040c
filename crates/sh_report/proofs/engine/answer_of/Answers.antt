use Rattle.sh_accept.specs.Answers.{Certifies, Checks, Lints, Prints}
use Rattle.sh_report.proofs.RunLemmas.{text_told, verdict_told}
use Rattle.sh_report.proofs.engine.answer_of.Goals as goal

pub returns-in-Lint : goal.returns-in-Lint
returns-in-Lint c =
    rw c.in-Lint.is
    (verdict_told (Lints c.args.script.now c.args.task.now.policy) c.args.script.now c.lint.result c.of_verdict.result c.lint.ensures.answers
    c.of_verdict.ensures.text c.of_verdict.ensures.status c.of_verdict.ensures.memory)

pub returns-in-Cert : goal.returns-in-Cert
returns-in-Cert c =
    rw c.in-Cert.is
    (text_told (Certifies c.in-Cert.full c.args.script.now c.args.task.now.policy) c.args.script.now c.certificate.result c.of_text.result c.certificate.ensures
    c.of_text.ensures.text c.of_text.ensures.status c.of_text.ensures.memory)

pub returns-in-Check : goal.returns-in-Check
returns-in-Check c =
    rw c.in-Check.is
    (verdict_told (Checks c.args.script.now c.args.task.now.policy c.args.text.now) c.args.script.now c.check.result c.of_verdict-in-Check.result c.check.ensures.answers
    c.of_verdict-in-Check.ensures.text c.of_verdict-in-Check.ensures.status c.of_verdict-in-Check.ensures.memory)

pub returns-in-Print : goal.returns-in-Print
returns-in-Print c =
    rw c.in-Print.is
    (text_told (Prints c.args.script.now) c.args.script.now c.canonical_text.result c.of_text-in-Print.result c.canonical_text.ensures
    c.of_text-in-Print.ensures.text c.of_text-in-Print.ensures.status c.of_text-in-Print.ensures.memory)
