use Rattle.std.proofs.Common.{take}
use Rattle.sh_worklist.specs.Flags.{is_in, limit_of}
use Rattle.sh_worklist.proofs.WaitLemmas.{AreAdded}
use Rattle.sh_worklist.proofs.waiting.wait_each.Given as goal

abbrev pub invariant-loop-number : goal.invariant-loop-number
invariant-loop-number l =
    AreAdded (is_in l.initial.commands.own) (is_in l.commands.own) (limit_of l.initial.commands.own) (limit_of l.commands.own) (take l.number-index l.numbers)
