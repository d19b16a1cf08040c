use Rattle.std.proofs.Common.{◌≡◌, ◌+◌, length, false, map}
use Rattle.sh_table.specs.WordTexts.{text_in}
use Rattle.sh_operands.specs.Texts.{positional_from}
use Rattle.sh_operands.proofs.options.find_positional.Given as goal

-- what is left decides
abbrev pub invariant-loop-rest : goal.invariant-loop-rest
invariant-loop-rest l =
    record {
      counted : l.at + length l.rest ≡ length l.words;
      same : positional_from l.at l.takes (map (text_in l.script) l.rest) ≡ positional_from 0 false (map (text_in l.script) l.words);
    }

abbrev pub decreases-loop-rest : goal.decreases-loop-rest
decreases-loop-rest l = length l.rest
