use Rattle.std.proofs.Common.{◌≡◌, true, false, codes, refl, rules}
use Rattle.std.specs.Str.{bytes_eq}
use Rattle.sh_domain.specs.CompactForms.{turn_of}
use Rattle.sh_facts.proofs.CompactFormLemmas.{turn_sole}
use Rattle.sh_facts.proofs.compact_forms.turn_in.Goals as goal

pub returns-in_err-letter : goal.returns-in_err-letter
unfolding turn_of
returns-in_err-letter c = rw (c.from_residual.ensures, c.in_err-letter.ensures.one) refl

pub returns-in_err-digits : goal.returns-in_err-digits
unfolding turn_of
returns-in_err-digits c = rw (c.from_residual-in_err-digits.ensures, c.in_ok-letter.ensures.two, c.in_err-digits.ensures.one) refl

pub returns-then-is_letter : goal.returns-then-is_letter
returns-then-is_letter c =
    let letter : bytes_eq (codes "h") c.in_ok-letter.letter.now ≡ true = search rules in
    rw (c.in_ok-letter.ensures.two, c.in_ok-digits.ensures.two, turn_sole c.args.least c.in_ok-letter.letter.now c.in_ok-digits.digits.now c.in_ok-digits.facts.now, letter) c.turn_of.ensures

pub returns-else-is_letter : goal.returns-else-is_letter
returns-else-is_letter c =
    let letter : bytes_eq (codes "h") c.in_ok-letter.letter.now ≡ false = search rules in
    rw (c.in_ok-letter.ensures.two, c.in_ok-digits.ensures.two, turn_sole c.args.least c.in_ok-letter.letter.now c.in_ok-digits.digits.now c.in_ok-digits.facts.now, letter) refl
