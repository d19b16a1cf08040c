use Rattle.std.proofs.Common.{◌≡◌, ◌+◌, drop}
use Rattle.sh_tree.specs.standard.language.Words.{plain_length}
use Rattle.sh_scan.proofs.words.plain.plain_length.Given as goal

-- the bytes so far are literal
abbrev pub invariant-loop-count : goal.invariant-loop-count
invariant-loop-count l = plain_length l.context l.fn.prior l.at l.rest ≡ l.count + plain_length l.context l.prior (l.at + l.count) (drop l.count l.rest)
