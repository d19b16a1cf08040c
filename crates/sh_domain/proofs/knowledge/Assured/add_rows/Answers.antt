use Rattle.std.proofs.Common.{◌||◌, ap, ◌∙◌, refl}
use Rattle.sh_domain.specs.Certificates.{claim_of}
use Rattle.sh_domain.specs.Facts.{facts}
use Rattle.sh_domain.specs.KeptRows.{holds_at}
use Rattle.sh_domain.specs.NumberSets.{numbers_of}
use Rattle.sh_domain.proofs.KnowledgeLemmas.{or_none, row_set}
use Rattle.sh_domain.proofs.MeetLemmas.{known_same}
use Rattle.sh_domain.proofs.knowledge.Assured.add_rows.Goals as goal

pub returns : goal.returns
unfolding facts claim_of
returns c names h =
    let rows = c.args.rows.now in
    known_same _ _ _ _ _ _
    (λ t. row_set names h rows c.args.vars (numbers_of c.join_row.new.self)
    (λ k lt. c.join_row.ensures.below k lt ∙ ap (λ b. holds_at rows.rows c.args.vars.index k || b) (c.requires.vars k) ∙ or_none (holds_at rows.rows c.args.vars.index k)) t)
    (λ t. row_set names h rows c.args.functions (numbers_of c.join_row-2.new.self)
    (λ k lt. c.join_row-2.ensures.below k lt ∙ ap (λ b. holds_at rows.rows c.args.functions.index k || b) (c.requires.functions k) ∙ or_none (holds_at rows.rows c.args.functions.index k)) t)
    refl
