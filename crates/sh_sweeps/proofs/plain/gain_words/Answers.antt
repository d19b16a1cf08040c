use Rattle.sh_tree.specs.Lists.{elements_from}
use Rattle.sh_tree.specs.standard.program.Words.{operands_in}
use Rattle.sh_domain.specs.Gains.{words_gains}
use Rattle.sh_drafts.proofs.ReadyLemmas.{names_numbered}
use Rattle.sh_sweeps.proofs.PlainLemmas.{words_known}
use Rattle.sh_sweeps.proofs.plain.gain_words.Goals as goal

pub returns : goal.returns
returns c =
    let s = c.args.subject.now in
    let r = c.requires.1 in
    let g = words_gains (operands_in (elements_from s.script.now c.args.elements.now)) in
    words_known s r.admitted c.args.certificate.now (names_numbered s _ _ r) r.over g c.args.known.now c.gain_operands.new.known c.gain_operands.ensures
