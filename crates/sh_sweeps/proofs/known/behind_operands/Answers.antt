use Rattle.sh_tree.specs.Lists.{elements_from}
use Rattle.sh_tree.specs.standard.program.Words.{operands_in}
use Rattle.sh_domain.specs.Gains.{words_gains}
use Rattle.sh_domain.specs.Knowledge.{knowledge_facts}
use Rattle.sh_domain.proofs.OrderLemmas.{within_nowhere}
use Rattle.sh_rules.specs.Walks.{facts_in}
use Rattle.sh_rules.proofs.GainLemmas.{facts_gained}
use Rattle.sh_sweeps.specs.Sweeps.{setting_by}
use Rattle.sh_drafts.proofs.ReadyLemmas.{numbered}
use Rattle.sh_sweeps.proofs.KnownLemmas.{gains_known}
use Rattle.sh_sweeps.proofs.known.behind_operands.Goals as goal

pub returns-then-not-is_reached : goal.returns-then-not-is_reached
unfolding knowledge_facts
returns-then-not-is_reached c q knows other keeps = within_nowhere _

pub returns : goal.returns
unfolding facts_in
returns c =
    let s = c.args.subject.now in
    let r = c.requires.1 in
    let h = numbered s.script.now s.policy.now s.tree.now s.names.now r.admitted in
    let g = words_gains (operands_in (elements_from s.script.now c.args.elements.now)) in
    gains_known s c.args.certificate.now h r.over g c.args.known.now _
    (facts_gained (setting_by s c.args.certificate.now) _ c.args.known.now _ g c.gain_operands.ensures)
