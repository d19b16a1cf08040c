use Rattle.std.proofs.Common.{◌≡◌, true, rules}
use Rattle.std.specs.List.{list_all}
use Rattle.sh_tree.specs.standard.language.Bytes.{is_name}
use Rattle.sh_accept.specs.Written.{Tells}
use Rattle.sh_tree.proofs.ResultLemmas.{whatever}
use Rattle.sh_report.proofs.PromiseLemmas.{told_safe}
use Rattle.sh_report.proofs.ReadLemmas.{at_most, front_written, is_read}
use Rattle.sh_report.proofs.engine.run.Goals as goal

pub returns-clause-text : goal.returns-clause-text
returns-clause-text g c =
    let tells : Tells c.args.task.now.action c.in_ok-bytes.bytes.items c.in_ok-text.text.items c.args.task.now.policy c.in-Ok.answer.text.items c.in-Ok.answer.status = search rules in (
      c.in_ok-bytes.bytes.items,
      c.in_ok-text.text.items,
      is_read _ _ _ _ _ c.in_ok-bytes.bytes c.in_ok-bytes.ensures.taken c.in_ok-bytes.ensures.whole,
      c.in_ok-text.ensures.taken,
      record { text = c.in-Ok.answer.text.items; tells = tells; written = search rules },
    )

pub returns-clause-headline : goal.returns-clause-headline
returns-clause-headline g c =
    let names : list_all is_name c.args.task.now.policy.names ≡ true = search rules in
    let tells : Tells c.args.task.now.action c.in_ok-bytes.bytes.items c.in_ok-text.text.items c.args.task.now.policy c.in-Ok.answer.text.items c.in-Ok.answer.status = search rules in (
      c.in_ok-bytes.bytes.items,
      is_read _ _ _ _ _ c.in_ok-bytes.bytes c.in_ok-bytes.ensures.taken c.in_ok-bytes.ensures.whole,
      λ shown printed is.
          told_safe c.args.task.now.action c.in_ok-bytes.bytes.items c.in_ok-text.text.items c.args.task.now.policy c.in-Ok.answer.text.items c.in-Ok.answer.status names tells shown printed is,
    )

pub returns-in_default-clause-cert_lost : goal.returns-in_default-clause-cert_lost
returns-in_default-clause-cert_lost g c = λ is. at_most _ _ _ _ _ (c.in_ok-text.ensures.whole is)

pub returns-in_err-write_all-clause-cert_lost : goal.returns-in_err-write_all-clause-cert_lost
returns-in_err-write_all-clause-cert_lost g c = whatever c.from_residual-in_err-write_all.result (λ is. at_most _ _ _ _ _ (c.in_ok-text.ensures.whole is))

pub returns-in_err-write_all-clause-front : goal.returns-in_err-write_all-clause-front
returns-in_err-write_all-clause-front g c =
    λ is.
    let tells : Tells c.args.task.now.action c.in_ok-bytes.bytes.items c.in_ok-text.text.items c.args.task.now.policy c.in-Ok.answer.text.items c.in-Ok.answer.status = search rules in
    let shown : c.deref-3.result.now ≡ c.in-Ok.answer.text.items = search rules in (
      c.in_ok-bytes.bytes.items,
      c.in_ok-text.text.items,
      is_read _ _ _ _ _ c.in_ok-bytes.bytes c.in_ok-bytes.ensures.taken c.in_ok-bytes.ensures.whole,
      c.in_ok-text.ensures.taken,
      front_written c.args.task.now _ _ _ _ c.deref-3.result.now c.in-Ok.answer.text.items c.in-Ok.answer.status shown tells c.in_err-write_all.ensures.front,
    )
