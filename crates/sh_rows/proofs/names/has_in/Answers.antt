use Rattle.std.proofs.Common.{sym}
use Rattle.sh_rows.proofs.NumberLemmas.{has_number-would}
use Rattle.sh_rows.proofs.names.has_in.Goals as goal

pub returns-in-Err : goal.returns-in-Err
returns-in-Err c = sym (has_number-would c.args.n c.args.numbers.now c.in-Err.field-0 c.in-Err.ensures.1 c.in-Err.ensures.2)
