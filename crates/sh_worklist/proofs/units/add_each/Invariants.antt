use Rattle.std.proofs.Common.{take}
use Rattle.sh_worklist.specs.Flags.{is_in, limit_of}
use Rattle.sh_worklist.proofs.WaitLemmas.{AreAdded}
use Rattle.sh_worklist.proofs.units.add_each.Given as goal

abbrev pub invariant-loop-number : goal.invariant-loop-number
invariant-loop-number l = AreAdded (is_in l.initial.flags) (is_in l.flags) (limit_of l.initial.flags) (limit_of l.flags) (take l.number-index l.numbers)
