use Rattle.sh_judged.proofs.CheckLemmas.{numbered_prepared}
use Rattle.sh_judged.proofs.verdicts.verdict_with.Goals as goal

pub check_quotes-requires-clause-numbered : goal.check_quotes-requires-clause-numbered
check_quotes-requires-clause-numbered c = numbered_prepared c.args.script.now c.requires.0 c.args.prepared.now c.requires.1
