use Rattle.std.proofs.Common.{◌≡◌, ℕ, ◌<◌, false}
use Rattle.sh_domain.specs.KeptRows.{holds_at}
use Rattle.sh_rules.proofs.slots.holds_none.Given as goal

-- no number so far is in the row
abbrev pub invariant-loop-number : goal.invariant-loop-number
invariant-loop-number l = (k : ℕ) → k < l.number → holds_at l.rows.rows l.id.index k ≡ false
