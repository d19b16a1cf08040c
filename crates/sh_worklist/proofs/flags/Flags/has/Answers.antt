use Rattle.std.proofs.Common.{◌∙◌, sym}
use Rattle.sh_worklist.proofs.FlagLemmas.{beyond}
use Rattle.sh_worklist.proofs.flags.Flags.has.Goals as goal

pub returns-else-has_room : goal.returns-else-has_room
returns-else-has_room c = c.if-has_room.false ∙ sym (beyond c.args.self.now.words.items c.args.number (sym c.has_room.ensures ∙ c.if-has_room.false))
