use Rattle.std.proofs.Common.{arith}
use Rattle.sh_domain.specs.NumberSets.{numbers_of}
use Rattle.sh_domain.proofs.NumberSetLemmas.{row_holds}
use Rattle.sh_domain.proofs.number_set.NumberSet.is_in_row.Goals as goal

pub returns : goal.returns
returns c = row_holds c.args.rows.now.rows c.args.id.index (numbers_of c.of_row-beside.result) c.args.self.now.words _ (omega arith) c.of_row-beside.ensures c.is_within.ensures
