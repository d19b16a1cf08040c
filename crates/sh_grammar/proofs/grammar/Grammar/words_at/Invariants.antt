use Rattle.std.proofs.Common.{◌-◌, ◌≤◌, length}
use Rattle.sh_grammar.specs.States.{Stands}
use Rattle.sh_grammar.proofs.ForLemmas.{WordsFound}
use Rattle.sh_grammar.proofs.grammar.Grammar.words_at.Given as goal

abbrev pub invariant-loop-next : goal.invariant-loop-next
invariant-loop-next g l = record {
  found : WordsFound l.script l.fn.from l.words l.next;
  from : l.fn.from.at ≤ l.next.at;
  stands : Stands l.script l.next;
}

abbrev pub decreases-loop-next : goal.decreases-loop-next
decreases-loop-next g l = length l.script - l.next.at
