use Rattle.std.proofs.Common.{[], ◌∷◌, subst}
use Rattle.sh_domain.specs.Knowledge.{knowledge_facts}
use Rattle.sh_domain.specs.Views.{Head, at, gaining_names}
use Rattle.sh_sweeps.specs.Sweeps.{Knows}
use Rattle.sh_sweeps.proofs.known.turn_of.Goals as goal

pub returns : goal.returns
returns c =
    let s = c.args.subject.now in
    subst (λ t. Knows s (gaining_names (t ∷ []) (at (Head c.args.number))) (knowledge_facts s.names.now c.behind_name.result)) c.text.ensures (c.behind_name.ensures (at (Head c.args.number)) c.head_of-head.ensures)
