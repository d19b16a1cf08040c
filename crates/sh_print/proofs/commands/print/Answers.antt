use Rattle.std.proofs.Common.{rules, ◌≡◌}
use Rattle.sh_print.specs.Layout.{canon}
use Rattle.sh_print.proofs.RoundTrip.{text_read_back}
use Rattle.sh_print.proofs.commands.print.Goals as goal

pub returns-clause-reads : goal.returns-clause-reads
returns-clause-reads c =
    let text : c.push_script.new.out.items ≡ canon c.args.script.now c.args.tree.now = search rules in
    text_read_back c.args.script.now c.args.tree.now c.push_script.new.out.items text
