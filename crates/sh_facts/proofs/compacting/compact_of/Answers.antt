use Rattle.std.proofs.Common.{◌≡◌, length, refl, ◌∙◌, rules}
use Rattle.sh_facts.proofs.CompactingLemmas.{compact_kept}
use Rattle.sh_facts.proofs.compacting.compact_of.Goals as goal

pub returns-clause-sheet : goal.returns-clause-sheet
returns-clause-sheet c =
    let commands : c.len.result ≡ length c.args.certificate.now.entries.items = search rules in
    compact_kept c.args.certificate.now c.args.start.now c.new-rows.result c.keep_known.new.rows c.keep_heads.new.rows c.keep_functions.new.rows
    (record { commands = c.len.result; start = c.in_ok-start.start; rows = c.keep_functions.new.rows; heads = c.in_ok-heads.heads; functions = c.in_ok-functions.functions })
    (c.new-rows.ensures.count ∙ c.count.ensures) commands refl c.in_ok-start.ensures c.in_ok-heads.ensures c.in_ok-functions.ensures
