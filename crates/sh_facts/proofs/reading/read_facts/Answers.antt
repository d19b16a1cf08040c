use Rattle.std.proofs.lemmas.Result.{err_from_is_err_and}
use Rattle.sh_facts.specs.Fields.{claim_of}
use Rattle.sh_domain.specs.Reading.{claim_fits}
use Rattle.sh_facts.proofs.ReadingLemmas.{known_read, unreached_read}
use Rattle.sh_facts.proofs.reading.read_facts.Goals as goal

pub returns-in_err-sets-in-Known-clause-refusal : goal.returns-in_err-sets-in-Known-clause-refusal
unfolding claim_of claim_fits
returns-in_err-sets-in-Known-clause-refusal c =
    let p = err_from_is_err_and c.from_residual.result c.from_residual.ensures.1 in
    rw (p.1, p.2, c.in-Known.is) c.in_err-sets-in-Known.ensures.refusal

pub returns-in-NotReached-clause-ok : goal.returns-in-NotReached-clause-ok
returns-in-NotReached-clause-ok c = rw c.in-NotReached.is (unreached_read c.args.names.now c.args.rows.now)

pub returns-in_ok-sets-in-Known-clause-ok : goal.returns-in_ok-sets-in-Known-clause-ok
returns-in_ok-sets-in-Known-clause-ok c =
    rw c.in-Known.is (known_read c.args.names.now c.in-Known.args c.in-Known.sets c.args.rows.now c.read_sets.new.rows c.in_ok-sets-in-Known.sets c.in_ok-sets-in-Known.ensures.ok)
