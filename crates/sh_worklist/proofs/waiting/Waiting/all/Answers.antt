use Rattle.std.proofs.Common.{arith, ◌≡◌, length, ap, sym, ◌∙◌}
use Rattle.std.proofs.lemmas.List.{length-map}
use Rattle.sh_table.specs.KeptTable.{row_in}
use Rattle.sh_worklist.proofs.waiting.Waiting.all.Goals as goal

pub returns : goal.returns
returns c = λ k few.
    let rows : length c.rows.result.now ≡ length c.args.table.now.rows = sym (length-map c.rows.result.now (row_in c.args.table.now.script)) ∙ ap length c.rows.ensures in
    c.in_ok-all.ensures.own k (omega (arith, few, rows))
