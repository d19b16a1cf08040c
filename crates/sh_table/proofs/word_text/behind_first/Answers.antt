use Rattle.std.proofs.Common.{◌≡◌, ◌+◌, rules, refl}
use Rattle.sh_table.proofs.WordTextLemmas.{text_behind_first}
use Rattle.sh_table.proofs.word_text.behind_first.Goals as goal

pub returns : goal.returns
returns c =
    let next : c.in_ok-start.start ≡ c.args.span.start + 1 = search rules in
    λ b. text_behind_first b c.args.span (record { start = c.in_ok-start.start; end = c.args.span.end }) next refl
