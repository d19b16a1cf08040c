use Rattle.std.proofs.Common.{◌∙◌, sym}
use Rattle.sh_worklist.specs.Flags.{is_in}
use Rattle.sh_worklist.proofs.FlagLemmas.{beyond, taken_none}
use Rattle.sh_worklist.proofs.flags.Flags.take.Goals as goal

pub returns-else-has_room-clause-numbers : goal.returns-else-has_room-clause-numbers
returns-else-has_room-clause-numbers c k =
    taken_none c.args.number k (is_in c.args.self.now) (beyond c.args.self.now.words.items c.args.number (sym c.has_room.ensures ∙ c.if-has_room.false))
