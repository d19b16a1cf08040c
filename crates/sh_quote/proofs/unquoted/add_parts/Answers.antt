use Rattle.std.proofs.Common.{rules, ◌≡◌, ◌<◌, length, get_or}
use Rattle.sh_quote.specs.Unquoted.{part_told}
use Rattle.sh_quote.proofs.UnquotedLemmas.{on_err, some_in}
use Rattle.sh_quote.proofs.unquoted.add_parts.Goals as goal

pub returns-in_err-add_part-clause-some : goal.returns-in_err-add_part-clause-some
returns-in_err-add_part-clause-some c =
    let there : c.loop-part.part-index < length c.args.parts.now = search rules in
    let same : c.part-item.result ≡ get_or c.args.parts.now c.loop-part.part-index c.part-item.result = search rules in
    on_err c.from_residual.result
    (some_in (part_told c.args.script.now c.args.numbers) c.args.parts.now c.loop-part.part-index c.part-item.result there same (c.in_err-add_part.ensures.some c.args.script.now))
