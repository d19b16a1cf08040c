use Rattle.std.proofs.Common.{◌≡◌, ◌≤◌, drop}
use Rattle.sh_tree.specs.standard.language.Bytes.{decimal}
use Rattle.sh_scan.proofs.words.parameters.number_of.Given as goal

-- the number of the digits so far
abbrev pub invariant-loop-digit : goal.invariant-loop-digit
invariant-loop-digit l = record {
  small : l.number ≤ 65535;
  whole : decimal l.number (drop l.digit-index l.digits) ≡ decimal 0 l.digits;
}
