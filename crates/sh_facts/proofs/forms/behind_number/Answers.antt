use Rattle.std.proofs.Common.{◌≡◌, true, false, ◌&&◌, [], ◌∷◌, refl, rules}
use Rattle.std.specs.Fmt.{decimal}
use Rattle.std.specs.Str.{bytes_eq}
use Rattle.sh_facts.specs.Fields.{behind_number}
use Rattle.sh_facts.proofs.FormLemmas.{behind_more}
use Rattle.sh_facts.proofs.forms.behind_number.Goals as goal

pub returns-in_err-first : goal.returns-in_err-first
unfolding behind_number
returns-in_err-first c = rw (c.from_residual.ensures, c.in_err-first.ensures.one) refl

pub returns-in_err-digits : goal.returns-in_err-digits
unfolding behind_number
returns-in_err-digits c = rw (c.from_residual-in_err-digits.ensures, c.in_ok-first.ensures.two, c.in_err-digits.ensures.one) refl

pub returns-then-is_number : goal.returns-then-is_number
returns-then-is_number c =
    let letter : bytes_eq (c.args.letter ∷ []) c.in_ok-first.first.now ≡ true = search rules in
    let number : bytes_eq (decimal c.args.number) c.in_ok-digits.digits.now ≡ true = search rules in
    rw (c.in_ok-first.ensures.two, c.in_ok-digits.ensures.two, behind_more c.args.letter c.args.number c.in_ok-first.first.now c.in_ok-digits.digits.now c.in_ok-digits.facts.now, letter, number) refl

pub returns-else-is_letter : goal.returns-else-is_letter
returns-else-is_letter c =
    let no : (bytes_eq (c.args.letter ∷ []) c.in_ok-first.first.now && bytes_eq (decimal c.args.number) c.in_ok-digits.digits.now) ≡ false = search rules in
    rw (c.in_ok-first.ensures.two, c.in_ok-digits.ensures.two, behind_more c.args.letter c.args.number c.in_ok-first.first.now c.in_ok-digits.digits.now c.in_ok-digits.facts.now, no) refl
