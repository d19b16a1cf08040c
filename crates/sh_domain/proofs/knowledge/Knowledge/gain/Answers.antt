use Rattle.std.proofs.Common.{[], ◌∷◌, sym, ◌∙◌, ap}
use Rattle.sh_domain.specs.Gains.{named, with_gains}
use Rattle.sh_domain.specs.Knowledge.{among, knowledge_facts}
use Rattle.sh_domain.proofs.KnowledgeLemmas.{gained}
use Rattle.sh_domain.proofs.knowledge.Knowledge.gain.Goals as goal

pub returns-in-Known : goal.returns-in-Known
unfolding knowledge_facts
returns-in-Known c =
    let names = c.args.names.now in
    gained names c.args.name.now c.in-Known.assured c.add_name.new.self c.add_name.ensures
    ∙ ap (λ k. among names (with_gains (named (c.args.name.now ∷ [])) (knowledge_facts names k))) (sym c.in-Known.is)
