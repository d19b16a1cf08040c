use Rattle.std.proofs.Common.{◌≡◌, ℕ, ◌<◌, slice_get}
use Rattle.std.specs.Option.{ForSome}
use Rattle.sh_rows.specs.Numbers.{has_number}
use Rattle.sh_domain.specs.NumberSets.{numbers_of}
use Rattle.sh_demands.specs.Blocks.{block_of}
use Rattle.sh_demands.proofs.blocks.sets_of.Given as goal

-- each block so far is in its set
abbrev pub invariant-loop-index : goal.invariant-loop-index
invariant-loop-index l = (i : ℕ) → i < l.index → ForSome (slice_get l.sets i) (λ s. (k : ℕ) → numbers_of s k ≡ has_number k (block_of i l.numbers))
