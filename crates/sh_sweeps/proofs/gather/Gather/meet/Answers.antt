use Rattle.std.proofs.Common.{sym, ap, ◌∙◌}
use Rattle.sh_domain.specs.Knowledge.{assured_facts, knowledge_facts}
use Rattle.sh_drafts.specs.Kept.{seen_of}
use Rattle.sh_drafts.specs.Gathering.{met}
use Rattle.sh_drafts.specs.Numbers.{by_number}
use Rattle.sh_sweeps.specs.Asked.{gathered_of}
use Rattle.sh_sweeps.proofs.AskingLemmas.{nothing_met, known_put}
use Rattle.sh_sweeps.proofs.gather.Gather.meet.Goals as goal

pub returns-in-NotReached : goal.returns-in-NotReached
unfolding by_number knowledge_facts
returns-in-NotReached c =
    let g = gathered_of c.args.self.now in
    nothing_met g ∙ ap (λ k. met (by_number c.args.names.now (knowledge_facts c.args.names.now k)) g) (sym c.in-NotReached.is)

pub returns-in-Known : goal.returns-in-Known
unfolding gathered_of seen_of knowledge_facts
returns-in-Known c =
    let g = gathered_of c.args.self.now in
    known_put g (by_number c.args.names.now (assured_facts c.args.names.now c.in-Known.assured)) _ c.meet_assured.ensures
    ∙ ap (λ k. met (by_number c.args.names.now (knowledge_facts c.args.names.now k)) g) (sym c.in-Known.is)
