use Rattle.std.proofs.Common.{◌*◌}
use Rattle.std.specs.Slice.Scan.{HoldsNowhere}
use Rattle.sh_rows.specs.Numbers.{has_bit}
use Rattle.sh_worklist.proofs.flags.Flags.next.Given as goal

abbrev pub invariant-loop-index : goal.invariant-loop-index
invariant-loop-index l = HoldsNowhere (λ k. has_bit k l.self.words.items) l.from (64 * l.index)
