use Rattle.std.proofs.Common.{nat_eq}
use Rattle.indexmap.specs.IndexMap.{get}
use Rattle.sh_facts.proofs.CompactReadLemmas.{InTurns}
use Rattle.sh_facts.proofs.compact_reading.read_turns.Given as goal

-- so many lines are read
abbrev pub invariant-loop-number : goal.invariant-loop-number
invariant-loop-number l = InTurns l.names l.numbers l.text l.number-index l.least l.left l.initial.rows l.rows l.heads.entries (get nat_eq l.heads)
