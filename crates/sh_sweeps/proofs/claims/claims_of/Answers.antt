use Rattle.std.proofs.Common.{ap}
use Rattle.sh_runs.specs.Calls.{Table, table_of}
use Rattle.sh_drafts.proofs.ReadyLemmas.{numbered}
use Rattle.sh_sweeps.proofs.SweepLemmas.{setting_is}
use Rattle.sh_sweeps.proofs.claims.claims_of.Goals as goal

pub invariant_of-result : goal.invariant_of-result
unfolding table_of
invariant_of-result c =
    let s = c.args.subject.now in
    record { numbered = numbered s.script.now s.policy.now s.tree.now s.names.now c.requires.admitted; sized = c.requires.sized; read = ap (λ (t : Table). t.script) s.listed }

pub returns : goal.returns
returns c = setting_is _ c.args.subject.now.tree.now c.args.subject.now.listed
