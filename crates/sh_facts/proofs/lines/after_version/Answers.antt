use Rattle.std.proofs.Common.{◌≡◌, true, false, refl, rules}
use Rattle.std.specs.Str.{bytes_eq}
use Rattle.sh_facts.specs.Fields.{text_left, left_of}
use Rattle.sh_domain.specs.Forms.{whole_line, formed}
use Rattle.sh_domain.specs.Sheets.{first_line}
use Rattle.sh_facts.proofs.lines.after_version.Goals as goal

pub returns-in_default : goal.returns-in_default
unfolding text_left left_of whole_line
returns-in_default c = rw (← c.in_default.ensures.at) refl

pub returns-then-is_first : goal.returns-then-is_first
unfolding text_left left_of whole_line formed
returns-then-is_first c =
    let first : bytes_eq first_line c.in-Some.line.now ≡ true = search rules in
    rw (← c.in-Some.ensures.at, first) refl

pub returns-else-is_first : goal.returns-else-is_first
unfolding text_left left_of whole_line formed
returns-else-is_first c =
    let first : bytes_eq first_line c.in-Some.line.now ≡ false = search rules in
    rw (← c.in-Some.ensures.at, first) refl
