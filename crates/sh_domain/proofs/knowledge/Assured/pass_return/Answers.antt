use Rattle.std.proofs.Common.{◌&&◌, ◌||◌, not, refl, ◌∙◌, ap}
use Rattle.sh_runs.specs.standard.runs.Environment.{is_one_of}
use Rattle.sh_domain.specs.Certificates.{claim_of}
use Rattle.sh_domain.specs.Facts.{facts}
use Rattle.sh_domain.specs.Knowledge.{contains}
use Rattle.sh_domain.specs.Views.{returned}
use Rattle.sh_domain.specs.NumberSets.{numbers_of}
use Rattle.sh_domain.proofs.KnowledgeLemmas.{row_back, row_prefixes}
use Rattle.sh_domain.proofs.MeetLemmas.{known_same}
use Rattle.sh_domain.proofs.knowledge.Assured.pass_return.Goals as goal

pub returns : goal.returns
unfolding returned facts claim_of
returns c names before args h p =
    let rows = c.args.rows.now in
    let old = c.args.self.now in
    let drops = c.args.drops.now in
    known_same _ _ _ _ _ _
    (λ t.
    row_prefixes names h (numbers_of old.vars) (numbers_of c.join_row.new.self) (numbers_of c.remove-2.new.self) (numbers_of c.args.prefixes.now) (numbers_of c.remove.new.self) before c.remove.ensures c.remove-2.ensures p t
    ∙ ap (λ b. b && (contains names old.vars t || not (is_one_of before t)))
    (row_back names h rows drops.vars c.args.vars (numbers_of old.vars) (numbers_of c.remove_row.new.self) (numbers_of c.join_row.new.self) c.remove_row.ensures c.join_row.ensures.below t))
    (λ t. row_back names h rows drops.functions c.args.functions (numbers_of old.functions) (numbers_of c.remove_row-2.new.self) (numbers_of c.join_row-2.new.self) c.remove_row-2.ensures c.join_row-2.ensures.below t)
    refl
