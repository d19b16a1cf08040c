use Rattle.std.proofs.Common.{arith, ◌∙◌}
use Rattle.sh_domain.specs.NumberSets.{numbers_of}
use Rattle.sh_domain.proofs.NumberSetLemmas.{row_met}
use Rattle.sh_domain.proofs.number_set.NumberSet.meet_row.Goals as goal

pub returns : goal.returns
returns c k = c.meet.ensures k ∙ row_met c.args.rows.now.rows c.args.id.index (numbers_of c.of_row-beside.result) c.args.self.now.words (omega arith) c.of_row-beside.ensures k
