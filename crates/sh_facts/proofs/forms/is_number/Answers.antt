use Rattle.std.proofs.Common.{Some, nat_eq, ap, ◌∙◌, arith}
use Rattle.std.specs.Option.{option_eq}
use Rattle.sh_facts.proofs.FormLemmas.{number_same}
use Rattle.sh_facts.proofs.forms.is_number.Goals as goal

pub returns : goal.returns
returns c =
    c.eq.ensures ∙ ap (λ o. option_eq nat_eq o (Some c.args.number)) c.number_in.ensures ∙ number_same c.args.number (omega (arith, c.ranges.number.fits)) c.args.text.now
