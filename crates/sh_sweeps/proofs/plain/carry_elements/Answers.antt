use Rattle.std.proofs.Common.{sym, ◌∙◌}
use Rattle.sh_drafts.proofs.ReadyLemmas.{names_numbered}
use Rattle.sh_sweeps.proofs.PlainLemmas.{assigned_carried, is_assigning, utility_carried}
use Rattle.sh_sweeps.proofs.plain.carry_elements.Goals as goal

pub returns-then-is_plain-clause-carried : goal.returns-then-is_plain-clause-carried
returns-then-is_plain-clause-carried c = λ is m simple.
    let s = c.args.subject.now in
    let r = c.requires.1 in
    utility_carried s r.admitted c.args.certificate.now (names_numbered s _ _ r) r.over m c.args.elements.now c.args.known.now c.gain_words.new.known simple (c.is_plain.ensures c.if-is_plain.true m simple)
    c.gain_words.ensures

pub returns-clause-carried : goal.returns-clause-carried
returns-clause-carried c = λ is m simple.
    let s = c.args.subject.now in
    let r = c.requires.1 in
    assigned_carried s r.admitted c.args.certificate.now (names_numbered s _ _ r) r.over m c.args.elements.now c.args.known.now c.gain_words-2.new.known c.gain_values.new.known simple
    (is_assigning s m c.args.elements.now simple (sym c.are_assignments.ensures ∙ c.if-not-are_assignments.false)) c.gain_words-2.ensures c.gain_values.ensures
