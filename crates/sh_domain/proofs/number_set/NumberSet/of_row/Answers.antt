use Rattle.std.proofs.Common.{◌||◌, ap, ◌∙◌}
use Rattle.sh_domain.specs.KeptRows.{holds_at}
use Rattle.sh_domain.proofs.KnowledgeLemmas.{or_none}
use Rattle.sh_domain.proofs.number_set.NumberSet.of_row.Goals as goal

pub returns : goal.returns
returns c k lt =
    let there = holds_at c.args.rows.now.rows c.args.id.index k in
    c.join_row.ensures.below k lt ∙ ap (λ b. there || b) (c.new-set.ensures.numbers k) ∙ or_none there
