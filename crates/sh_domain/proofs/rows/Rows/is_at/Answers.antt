use Rattle.std.proofs.Common.{ap₂, eqb, ◌∙◌}
use lib.Pointwise.{pointwise}
use Rattle.sh_domain.proofs.RowLemmas.{is_row, no_row}
use Rattle.sh_domain.proofs.rows.Rows.is_at.Goals as goal

pub returns-in-Some : goal.returns-in-Some
returns-in-Some c =
    rw (← c.self.view_is) (is_row c.self.inside.set.keys c.in-Some.kept.now c.args.row.now c.args.id.index c.eq.result c.in-Some.ensures.key
    (c.eq.ensures ∙ ap₂ (pointwise eqb) c.words.ensures c.words-in-Some.ensures))

pub returns-in-None : goal.returns-in-None
returns-in-None c = rw (← c.self.view_is) (no_row c.self.inside.set.keys c.args.row.now c.args.id.index c.in-None.ensures.key)
