use Rattle.std.proofs.Common.{◌≡◌, ◌<◌, ◌≤◌, length, get_or, ◌∙◌, rules}
use Rattle.sh_table.proofs.TableLemmas.{static_here, no_static}
use Rattle.sh_table.proofs.table.text_in_row.Goals as goal

pub returns-in-Some : goal.returns-in-Some
returns-in-Some c =
    let within : c.args.word < length c.args.row.now.texts.items = search rules in
    let found : c.in-Some.text.now ≡ get_or c.args.row.now.texts.items c.args.word c.in-Some.text.now = search rules in
    c.get-in-Some.ensures ∙ static_here c.args.script.now c.args.row.now.texts.items c.args.word c.in-Some.text.now within found

pub returns-in-None : goal.returns-in-None
returns-in-None c =
    let outside : length c.args.row.now.texts.items ≤ c.args.word = search rules in
    no_static c.args.script.now c.args.row.now.texts.items c.args.word outside
