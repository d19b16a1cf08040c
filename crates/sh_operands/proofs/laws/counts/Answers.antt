use Rattle.sh_operands.proofs.MeaningLemmas.{numbers_read, fields_count}
use Rattle.sh_operands.proofs.laws.counts.Goals as goal

pub returns-clause-number : goal.returns-clause-number
returns-clause-number c = numbers_read

pub returns-clause-fields : goal.returns-clause-fields
returns-clause-fields c = fields_count
