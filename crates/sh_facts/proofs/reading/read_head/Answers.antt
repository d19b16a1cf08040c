use Rattle.std.proofs.Common.{◌≡◌, true, false, refl, rules}
use Rattle.std.proofs.lemmas.Result.{err_from_is_err_and}
use Rattle.sh_domain.specs.Reading.{head_fits}
use Rattle.sh_facts.proofs.ReadingLemmas.{head_read, no_head_read}
use Rattle.sh_facts.proofs.reading.read_head.Goals as goal

pub returns-then-is_loop-clause-refusal : goal.returns-then-is_loop-clause-refusal
unfolding head_fits
returns-then-is_loop-clause-refusal c =
    let loops : c.args.is_loop ≡ true = search rules in
    rw (c.in-None.is, loops) refl

pub returns-then-not-is_loop-clause-refusal : goal.returns-then-not-is_loop-clause-refusal
unfolding head_fits
returns-then-not-is_loop-clause-refusal c =
    let none : c.args.is_loop ≡ false = search rules in
    rw (c.in-Some.is, none) refl

pub returns-in_err-read_facts-in-Some-clause-refusal : goal.returns-in_err-read_facts-in-Some-clause-refusal
unfolding head_fits
returns-in_err-read_facts-in-Some-clause-refusal c =
    let loops : c.args.is_loop ≡ true = search rules in
    let p = err_from_is_err_and c.from_residual.result c.from_residual.ensures.1 in
    rw (p.1, p.2, c.in-Some.is, loops) c.in_err-read_facts-in-Some.ensures.refusal

pub returns-else-is_loop-clause-ok : goal.returns-else-is_loop-clause-ok
returns-else-is_loop-clause-ok c =
    let none : c.args.is_loop ≡ false = search rules in
    rw (c.in-None.is, none) (no_head_read c.args.names.now c.args.rows.now)

pub returns-in_ok-read_facts-in-Some-clause-ok : goal.returns-in_ok-read_facts-in-Some-clause-ok
returns-in_ok-read_facts-in-Some-clause-ok c =
    let loops : c.args.is_loop ≡ true = search rules in
    rw (c.in-Some.is, loops) (head_read c.args.names.now c.in-Some.text c.args.rows.now c.read_facts.new.rows c.in_ok-read_facts-in-Some.field-0 c.in_ok-read_facts-in-Some.ensures.ok)
