use Rattle.std.proofs.Common.{◌≡◌, length}
use Rattle.sh_words.specs.Operations.{leaving}
use Rattle.sh_words.proofs.builder.WordBuilder.leave_levels.Given as goal

-- the levels that are left stay the same
abbrev pub invariant-loop-frame : goal.invariant-loop-frame
invariant-loop-frame l = leaving l.self l.figure ≡ leaving l.initial.self l.figure

abbrev pub decreases-loop-frame : goal.decreases-loop-frame
decreases-loop-frame l = length l.self.frames
