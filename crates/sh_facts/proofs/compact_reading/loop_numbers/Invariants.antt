use Rattle.std.proofs.Common.{◌≡◌, ◌+◌, ◌++◌, drop}
use Rattle.sh_domain.specs.CompactReading.{loop_numbers}
use Rattle.sh_domain.specs.Reading.{loops_of}
use Rattle.sh_facts.proofs.compact_reading.loop_numbers.Given as goal

-- the numbers so far, before those of the commands that are left
abbrev pub invariant-loop-command : goal.invariant-loop-command
invariant-loop-command l = record {
  number : l.number ≡ l.command-index;
  numbers : l.numbers.items ++ loop_numbers (1 + l.command-index) (loops_of (drop l.command-index l.commands)) ≡ loop_numbers 1 (loops_of l.commands);
}
