use Rattle.std.proofs.Common.{refl}
use Rattle.sh_table.proofs.FoundLemmas.{row_pushed}
use Rattle.sh_table.proofs.found.add_row.Goals as goal

pub returns : goal.returns
returns c = row_pushed c.args.script.now _ _ _ c.args.command.now _ c.in_ok-push.ensures.items refl c.elements.ensures c.in_ok-texts.ensures
