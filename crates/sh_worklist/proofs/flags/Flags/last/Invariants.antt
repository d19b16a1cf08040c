use Rattle.sh_worklist.proofs.flags.Flags.last.Given as goal
use Rattle.sh_worklist.proofs.FlagLemmas.{IsAbove}

abbrev pub invariant-loop-left : goal.invariant-loop-left
invariant-loop-left l = IsAbove l.self.words.items l.below l.left

abbrev pub decreases-loop-left : goal.decreases-loop-left
decreases-loop-left l = l.left
