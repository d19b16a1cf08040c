use Rattle.std.proofs.Common.{map, ap, ◌∙◌}
use Rattle.sh_tree.specs.Lists.{elements_from}
use Rattle.sh_table.specs.WordTexts.{text_in}
use Rattle.sh_demands.specs.Moves.{moves_by}
use Rattle.sh_demands.proofs.ReportLemmas.{simple_told}
use Rattle.sh_demands.proofs.shared.tell_simple.Goals as goal

pub returns : goal.returns
returns c =
    let texts = c.texts-texts.result.now in
    simple_told c.args.source.now c.args.number c.args.at (elements_from c.args.script.now c.args.elements.now) c.args.reports.now c.tell_drops.new.reports c.tell_move.new.reports c.len-start.result
    (map (text_in c.args.source.now.table.script) texts) c.moves.result c.len-start.ensures c.texts-texts.ensures (c.moves.ensures ∙ ap (λ b. moves_by (map (text_in b) texts)) c.script.ensures)
    c.tell_drops.ensures c.tell_move.ensures
