use Rattle.sh_domain.proofs.RoundTripLemmas.{read_is_written, written_reads_back}
use Rattle.sh_domain.proofs.laws.round_trips.Goals as goal

pub returns-clause-written : goal.returns-clause-written
returns-clause-written c = written_reads_back

pub returns-clause-read : goal.returns-clause-read
returns-clause-read c = read_is_written
