use Rattle.std.proofs.Common.{sym, ◌∙◌, ap}
use Rattle.sh_domain.specs.Views.{Define, step}
use Rattle.sh_domain.specs.Knowledge.{among, knowledge_facts}
use Rattle.sh_domain.proofs.KnowledgeLemmas.{defined}
use Rattle.sh_domain.proofs.knowledge.Knowledge.define.Goals as goal

pub returns-in-Known : goal.returns-in-Known
unfolding knowledge_facts
returns-in-Known c cert =
    let names = c.args.names.now in
    defined names cert c.args.function.now c.in-Known.assured c.add_name.new.self c.add_name.ensures
    ∙ ap (λ k. among names (step cert (Define c.args.function.now) (knowledge_facts names k))) (sym c.in-Known.is)
