-- The spots of known programs, computed.
use Rattle.std.proofs.Common.{refl}
use Rattle.sh_domain.specs.examples.Spots.{SpotsAsExpected}
use Rattle.sh_reads.specs.Spots.{items_spots}
use Rattle.sh_domain.proofs.AnswerLemmas.{computes}

pub spots_as_expected : SpotsAsExpected
unfolding computes items_spots
spots_as_expected = record { nested = refl; here_document = refl; twice = refl }
