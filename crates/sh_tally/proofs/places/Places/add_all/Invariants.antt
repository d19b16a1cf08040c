use Rattle.std.proofs.Common.{◌≡◌, ◌++◌, map, take}
use Rattle.sh_tally.specs.Tallies.{count_at_first}
use Rattle.sh_tally.proofs.places.Places.add_all.Given as goal

abbrev pub invariant-loop-count : goal.invariant-loop-count
invariant-loop-count l = record { most : l.equations.most.items ≡ l.initial.equations.most.items ++ map count_at_first (take l.count-index l.self.counts.now); all : l.equations.all.items ≡ l.initial.equations.all.items }
