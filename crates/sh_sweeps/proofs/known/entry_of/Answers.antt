use Rattle.std.proofs.Common.{subst}
use Rattle.sh_domain.specs.Knowledge.{knowledge_facts}
use Rattle.sh_domain.specs.Views.{Entry, at}
use Rattle.sh_sweeps.specs.Sweeps.{Knows}
use Rattle.sh_sweeps.proofs.known.entry_of.Goals as goal

pub returns : goal.returns
returns c =
    let s = c.args.subject.now in
    subst (λ t. Knows s (at (Entry t)) (knowledge_facts s.names.now c.entry_by.result)) c.text.ensures c.entry_by.ensures
