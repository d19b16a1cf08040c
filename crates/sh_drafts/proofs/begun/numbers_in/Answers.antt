use Rattle.std.proofs.Common.{◌∙◌, sym, true≢false}
use Rattle.sh_domain.proofs.RowLemmas.{no_bits}
use Rattle.sh_drafts.proofs.BegunLemmas.{row_below, row_same}
use Rattle.sh_drafts.proofs.begun.numbers_in.Goals as goal

pub returns-in-Some-clause-same : goal.returns-in-Some-clause-same
returns-in-Some-clause-same c = λ k. c.join_row.ensures.all c.requires k ∙ row_same _ _ k c.new-set.ensures.numbers

pub returns-in-Some-clause-below : goal.returns-in-Some-clause-below
returns-in-Some-clause-below c = λ k e. row_below c.args.rows.now c.args.id c.in-Some._row.now (sym c.in-Some.ensures.row) c.in-Some.ensures.sized k (sym (c.join_row.ensures.all c.requires k ∙ row_same _ _ k c.new-set.ensures.numbers) ∙ e)

pub returns-in-None-clause-same : goal.returns-in-None-clause-same
returns-in-None-clause-same c = λ k. c.new-set.ensures.numbers k ∙ sym (no_bits c.args.rows.now.rows c.args.id.index (sym c.in-None.ensures.row) k)

pub returns-in-None-clause-below : goal.returns-in-None-clause-below
returns-in-None-clause-below c = λ k e. absurd (true≢false (sym e ∙ c.new-set.ensures.numbers k))
