use Rattle.std.proofs.Common.{sym, ◌∙◌}
use Rattle.sh_tally.proofs.SimpleLemmas.{shift_counted_none}
use Rattle.sh_tally.proofs.simple.shift_of.Goals as goal

pub returns-in-None : goal.returns-in-None
returns-in-None c = λ ws same. shift_counted_none _ ws (sym c.in-None.is ∙ c.first_number.ensures) same
