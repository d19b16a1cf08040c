use Rattle.std.proofs.Common.{sym, ◌∙◌, ap₂}
use Rattle.sh_domain.specs.Facts.{meet}
use Rattle.sh_domain.specs.Knowledge.{knowledge_facts}
use Rattle.sh_domain.proofs.knowledge.Knowledge.meet.Goals as goal

pub returns-in-Known-other : goal.returns-in-Known-other
unfolding knowledge_facts
returns-in-Known-other c names =
    c.meet.ensures names ∙ ap₂ (λ s u. meet (knowledge_facts names s) (knowledge_facts names u)) (sym c.in-Known.is) (sym c.in-Known-other.is)
