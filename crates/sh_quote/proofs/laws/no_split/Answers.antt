use Rattle.sh_tree.specs.standard.program.Trees.{script_of}
use Rattle.sh_domain.proofs.GivenLemmas.{read_gives_fields}
use Rattle.sh_quote.proofs.SplitLemmas.{quoting_suffices}
use Rattle.sh_quote.proofs.laws.no_split.Goals as goal

pub returns-clause-programs : goal.returns-clause-programs
returns-clause-programs c = quoting_suffices

pub returns-clause-scripts : goal.returns-clause-scripts
returns-clause-scripts c b t reads admitted = quoting_suffices (script_of b t) admitted (read_gives_fields b t reads)
