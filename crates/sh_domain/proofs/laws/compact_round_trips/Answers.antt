use Rattle.sh_domain.proofs.CompactRoundTripLemmas.{given_is_written, written_compact_reads_back}
use Rattle.sh_domain.proofs.laws.compact_round_trips.Goals as goal

pub returns-clause-written : goal.returns-clause-written
returns-clause-written c = written_compact_reads_back

pub returns-clause-read : goal.returns-clause-read
returns-clause-read c = given_is_written
