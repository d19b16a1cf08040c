use Rattle.sh_scan.proofs.WordLemmas.{single_open, single_closed}
use Rattle.sh_scan.proofs.words.signs.single_sign.Goals as goal

pub returns-in-Some-clause-value : goal.returns-in-Some-clause-value
returns-in-Some-clause-value c = single_closed c.args.rest.now _ c.in-Some.ensures

pub returns-in-None-clause-value : goal.returns-in-None-clause-value
returns-in-None-clause-value c = single_open c.args.rest.now c.in-None.ensures
