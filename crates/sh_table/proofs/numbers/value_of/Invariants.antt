use Rattle.std.proofs.Common.{◌≡◌, fold, take}
use Rattle.sh_table.specs.Numerals.{with_digit}
use Rattle.sh_table.proofs.numbers.value_of.Given as goal

-- the digits so far
abbrev pub invariant-loop-byte : goal.invariant-loop-byte
invariant-loop-byte l = l.value ≡ fold with_digit 0 (take l.byte-index l.text)
