use Rattle.std.proofs.Common.{◌≡◌, ◌+◌, ◌≤◌, length, rules}
use Rattle.sh_table.proofs.WordTextLemmas.{text_between_ends}
use Rattle.sh_table.proofs.word_text.between_ends.Goals as goal

pub returns : goal.returns
returns c =
    let within : c.args.span.end ≤ length c.args.script.now = search rules in
    let next : c.in_ok-start.start ≡ c.args.span.start + 1 = search rules in
    let last : c.args.span.end ≡ c.in_ok-end.end + 1 = search rules in
    text_between_ends c.args.script.now c.args.span (record { start = c.in_ok-start.start; end = c.in_ok-end.end }) within next last
