use Rattle.sh_tree.specs.standard.program.Trees.{expression_of}
use Rattle.sh_domain.specs.Gains.{assigned_in, named}
use Rattle.sh_domain.specs.Knowledge.{knowledge_facts}
use Rattle.sh_domain.proofs.OrderLemmas.{within_nowhere}
use Rattle.sh_rules.specs.Settings.{gained}
use Rattle.sh_rules.specs.Walks.{facts_in}
use Rattle.sh_drafts.proofs.ReadyLemmas.{numbered}
use Rattle.sh_sweeps.proofs.KnownLemmas.{facts_by, gains_known}
use Rattle.sh_sweeps.proofs.known.behind_assigned.Goals as goal

pub returns-then-not-is_reached : goal.returns-then-not-is_reached
unfolding knowledge_facts
returns-then-not-is_reached c q knows other keeps = within_nowhere _

pub returns : goal.returns
returns c =
    let s = c.args.subject.now in
    let r = c.requires.1 in
    let h = numbered s.script.now s.policy.now s.tree.now s.names.now r.admitted in
    gains_known s c.args.certificate.now h r.over (named (assigned_in (expression_of s.script.now c.args.expression.now))) c.args.known.now _
    (facts_by s c.args.certificate.now _ c.claims_of-claims.ensures (λ x. gained x (named (assigned_in (expression_of x.script c.args.expression.now))) (facts_in x c.args.known.now)) _ c.gain_assigned.ensures)
