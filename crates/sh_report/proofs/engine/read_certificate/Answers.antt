use Rattle.sh_report.proofs.ReadLemmas.{if_read}
use Rattle.sh_report.proofs.engine.read_certificate.Goals as goal

pub returns-in-Check-clause-taken : goal.returns-in-Check-clause-taken
returns-in-Check-clause-taken g c = rw c.in-Check.is (if_read _ _ _ _ _ c.read_all.result c.read_all.ensures.taken c.read_all.ensures.whole)
