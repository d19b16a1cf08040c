use Rattle.sh_tree.specs.Lists.{parts_from}
use Rattle.sh_domain.specs.Gains.{word_gains}
use Rattle.sh_domain.specs.Knowledge.{knowledge_facts}
use Rattle.sh_domain.proofs.OrderLemmas.{within_nowhere}
use Rattle.sh_rules.specs.Settings.{gained}
use Rattle.sh_rules.specs.Walks.{facts_in}
use Rattle.sh_drafts.proofs.ReadyLemmas.{numbered}
use Rattle.sh_sweeps.proofs.KnownLemmas.{facts_by, gains_known}
use Rattle.sh_sweeps.proofs.known.behind_word.Goals as goal

pub returns-then-not-is_reached : goal.returns-then-not-is_reached
unfolding knowledge_facts
returns-then-not-is_reached c q knows other keeps = within_nowhere _

pub returns : goal.returns
returns c =
    let s = c.args.subject.now in
    let r = c.requires.1 in
    let h = numbered s.script.now s.policy.now s.tree.now s.names.now r.admitted in
    gains_known s c.args.certificate.now h r.over (word_gains (parts_from s.script.now c.args.word.now.parts)) c.args.known.now _
    (facts_by s c.args.certificate.now _ c.claims_of-claims.ensures (λ x. gained x (word_gains (parts_from x.script c.args.word.now.parts)) (facts_in x c.args.known.now)) _ c.gain_word.ensures)
