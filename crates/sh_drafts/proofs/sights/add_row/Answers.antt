use Rattle.std.proofs.Common.{sym}
use Rattle.sh_domain.specs.NumberSets.{numbers_of}
use Rattle.sh_drafts.proofs.NumberLemmas.{row_added, row_unknown}
use Rattle.sh_drafts.proofs.sights.add_row.Goals as goal

pub returns-in-Some : goal.returns-in-Some
returns-in-Some c = λ names h sized.
    row_added names h c.args.rows.now c.args.id c.in-Some._row.now (numbers_of c.args.set.now) (numbers_of c.join_row.new.self) (sym c.in-Some.ensures.row) c.in-Some.ensures.sized sized (c.join_row.ensures.all c.requires)

pub returns-in-None : goal.returns-in-None
returns-in-None c = λ names h sized. row_unknown names h c.args.rows.now c.args.id (numbers_of c.args.set.now) (sym c.in-None.ensures.row)
