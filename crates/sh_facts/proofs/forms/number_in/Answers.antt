use Rattle.std.proofs.Common.{◌≡◌, true, sym, ◌∙◌, rules, arith}
use Rattle.sh_domain.specs.Forms as form
use Rattle.sh_facts.proofs.FormLemmas.{no_number, number_stops, number_goes, number_ends}
use Rattle.sh_facts.proofs.forms.number_in.Goals as goal

pub returns-then-not-leads_no_zero : goal.returns-then-not-leads_no_zero
returns-then-not-leads_no_zero c = sym (no_number c.args.text.now (search rules))

pub returns-in_err-value : goal.returns-in_err-value
returns-in_err-value c =
    let leads : form.leads_no_zero c.args.text.now ≡ true = search rules in
    rw c.from_residual.ensures (number_stops c.args.text.now c.loop-byte.byte-index c.loop-byte.value c.loop-byte-test.true leads c.loop-byte.invariant (sym c.in_err-value.was ∙ c.with_digit.ensures))

pub loop-byte-preserved : goal.loop-byte-preserved
loop-byte-preserved c =
    number_goes c.args.text.now c.loop-byte.byte-index c.loop-byte.value c.in_ok-value.value c.loop-byte-test.true c.loop-byte.invariant (sym c.in_ok-value.was ∙ c.with_digit.ensures)

pub returns : goal.returns
returns c =
    let leads : form.leads_no_zero c.args.text.now ≡ true = search rules in
    number_ends c.args.text.now c.loop-byte.byte-index c.loop-byte.value (omega (arith, c.loop-byte-test.false)) leads c.loop-byte.invariant
