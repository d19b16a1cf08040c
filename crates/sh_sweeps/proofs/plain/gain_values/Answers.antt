use Rattle.sh_tree.specs.Lists.{elements_from}
use Rattle.sh_domain.specs.Table.{assignments_gains}
use Rattle.sh_rules.specs.Settings.{gained}
use Rattle.sh_rules.specs.Walks.{facts_in}
use Rattle.sh_drafts.proofs.ReadyLemmas.{names_numbered}
use Rattle.sh_sweeps.proofs.KnownLemmas.{facts_by, gains_known}
use Rattle.sh_sweeps.proofs.plain.gain_values.Goals as goal

pub returns : goal.returns
returns c =
    let s = c.args.subject.now in
    let r = c.requires.1 in
    let x = c.args.certificate.now in
    let es = c.args.elements.now in
    let old = c.args.known.now in
    let new = c.gain_assignments.new.known in
    gains_known s x (names_numbered s _ _ r) r.over (assignments_gains (elements_from s.script.now es)) old new
    (facts_by s x _ c.claims_of-claims.ensures (λ z. gained z (assignments_gains (elements_from z.script es)) (facts_in z old)) new c.gain_assignments.ensures)
