use Rattle.std.proofs.Common.{sym, ap, ◌∙◌}
use Rattle.sh_domain.specs.Knowledge.{knowledge_facts}
use Rattle.sh_drafts.specs.Facts.{meet}
use Rattle.sh_drafts.specs.Kept.{seen_of}
use Rattle.sh_drafts.specs.Numbers.{by_number}
use Rattle.sh_sweeps.proofs.AskingLemmas.{with_nothing}
use Rattle.sh_sweeps.proofs.sides.meet_known.Goals as goal

pub returns-in-NotReached : goal.returns-in-NotReached
unfolding by_number knowledge_facts
returns-in-NotReached c =
    let f = seen_of c.args.seen.now in
    with_nothing f ∙ ap (λ k. meet f (by_number c.args.names.now (knowledge_facts c.args.names.now k))) (sym c.in-NotReached.is)

pub returns-in-Known : goal.returns-in-Known
unfolding seen_of knowledge_facts
returns-in-Known c =
    let f = seen_of c.args.seen.now in
    c.meet_assured.ensures ∙ ap (λ k. meet f (by_number c.args.names.now (knowledge_facts c.args.names.now k))) (sym c.in-Known.is)
