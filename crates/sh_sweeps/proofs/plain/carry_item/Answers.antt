use Rattle.sh_drafts.proofs.ReadyLemmas.{names_numbered}
use Rattle.sh_sweeps.proofs.PlainLemmas.{item_carried}
use Rattle.sh_sweeps.proofs.plain.carry_item.Goals as goal

pub returns-clause-carried : goal.returns-clause-carried
returns-clause-carried c = λ is.
    let s = c.args.subject.now in
    let r = c.requires in
    let m = c.in-Some.command.now in
    item_carried s r.admitted c.args.draft.now.certificate (names_numbered s _ _ r) r.over c.args.item.now m c.args.known.now c.carry_elements.new.known c.in-Some.ensures
    (c.carry_elements.ensures.carried is m c.in-Some-simple_elements.ensures)
