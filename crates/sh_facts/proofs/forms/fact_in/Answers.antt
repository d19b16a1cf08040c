use Rattle.std.proofs.Common.{◌≡◌, true, false, codes, refl, rules}
use Rattle.std.specs.Str.{bytes_eq}
use Rattle.sh_facts.specs.Fields.{claim_of}
use Rattle.sh_domain.specs.Forms.{claim_in, known_of}
use Rattle.sh_facts.proofs.FormLemmas.{no_sets}
use Rattle.sh_facts.proofs.forms.fact_in.Goals as goal

pub returns-then-matches : goal.returns-then-matches
unfolding claim_in claim_of
returns-then-matches c = let dash : bytes_eq (codes "-") c.args.text.now ≡ true = search rules in rw dash refl

pub returns-in_err-args : goal.returns-in_err-args
unfolding claim_in
returns-in_err-args c =
    let dash : bytes_eq (codes "-") c.args.text.now ≡ false = search rules in
    rw (c.from_residual.ensures, dash, c.in_err-args.ensures.one, no_sets c.args.text.now) refl

pub returns : goal.returns
unfolding claim_in known_of
returns c =
    let dash : bytes_eq (codes "-") c.args.text.now ≡ false = search rules in
    rw (dash, c.in_ok-args.ensures.two) c.known_in.ensures
