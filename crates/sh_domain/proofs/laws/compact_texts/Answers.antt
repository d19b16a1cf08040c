use Rattle.sh_domain.proofs.CompactTextLemmas.{compacted_as_expected, stated_as_expected, compacts_written, compacts_read, compact_faults_as_expected, versions_as_expected}
use Rattle.sh_domain.proofs.laws.compact_texts.Goals as goal

pub returns : goal.returns
returns c = (compacted_as_expected, stated_as_expected, compacts_written, compacts_read, compact_faults_as_expected, versions_as_expected)
