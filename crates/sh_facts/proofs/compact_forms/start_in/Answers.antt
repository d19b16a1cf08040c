use Rattle.std.proofs.Common.{◌≡◌, true, false, codes, refl, rules}
use Rattle.std.specs.Str.{bytes_eq}
use Rattle.sh_domain.specs.CompactForms.{start_of}
use Rattle.sh_facts.proofs.CompactFormLemmas.{start_sole}
use Rattle.sh_facts.proofs.compact_forms.start_in.Goals as goal

pub returns-in_err-letter : goal.returns-in_err-letter
unfolding start_of
returns-in_err-letter c = rw (c.from_residual.ensures, c.in_err-letter.ensures.one) refl

pub returns-then-is_letter : goal.returns-then-is_letter
returns-then-is_letter c =
    let letter : bytes_eq (codes "s") c.in_ok-letter.letter.now ≡ true = search rules in
    rw (c.in_ok-letter.ensures.two, start_sole c.in_ok-letter.letter.now c.in_ok-letter.facts.now, letter) c.fact_in.ensures

pub returns-else-is_letter : goal.returns-else-is_letter
returns-else-is_letter c =
    let letter : bytes_eq (codes "s") c.in_ok-letter.letter.now ≡ false = search rules in
    rw (c.in_ok-letter.ensures.two, start_sole c.in_ok-letter.letter.now c.in_ok-letter.facts.now, letter) refl
