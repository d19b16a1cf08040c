use Rattle.std.proofs.Common.{◌≡◌, ℕ, ◌<◌, nat_eq, None}
use Rattle.indexmap.specs.IndexMap.{get}
use Rattle.sh_facts.proofs.CompactingLemmas.{KeepsHeads}
use Rattle.sh_facts.proofs.compacting.keep_heads.Given as goal

abbrev pub invariant-loop-done : goal.invariant-loop-done
invariant-loop-done l = record {
  kept : KeepsHeads l.certificate l.initial.rows l.rows l.done l.heads.entries;
  none : (k : ℕ) → l.done < k → get nat_eq l.heads k ≡ None;
}
