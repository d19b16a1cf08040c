use Rattle.std.proofs.Common.{[], ◌∷◌, sym, ◌∙◌, ap}
use Rattle.sh_domain.specs.Views.{Lose, step}
use Rattle.sh_domain.specs.Knowledge.{knowledge_facts}
use Rattle.sh_domain.proofs.KnowledgeLemmas.{variable_lost}
use Rattle.sh_domain.proofs.knowledge.Knowledge.lose_variable.Goals as goal

pub returns-in-Known : goal.returns-in-Known
unfolding knowledge_facts
returns-in-Known c cert =
    let names = c.args.names.now in
    variable_lost names cert c.args.name.now c.in-Known.assured c.remove_name.new.self c.remove_name.ensures
    ∙ ap (λ k. step cert (Lose (record { vars = c.args.name.now ∷ []; functions = [] })) (knowledge_facts names k)) (sym c.in-Known.is)
