use Rattle.std.proofs.Common.{◌≤◌, length}
use Rattle.sh_words.specs.Clauses.{Keeps}
use Rattle.sh_words.specs.Rest.{Left}
use Rattle.sh_words.specs.Sound.{IsSound, Same, work}
use Rattle.sh_words.proofs.RunLemmas.{Progress}
use Rattle.sh_words.proofs.builder.WordBuilder.advance.Given as goal

abbrev pub invariant-loop-next : goal.invariant-loop-next
invariant-loop-next l = record {
  keeps : Keeps l.script (Left l.script l.initial.self) l.self;
  sound : IsSound l.script l.self;
  same : Same l.script l.initial.self l.self;
  from : l.initial.self.at ≤ l.self.at;
  inside : l.self.at ≤ length l.script;
  progress : Progress l.script l.initial.self l.self;
}

abbrev pub decreases-loop-next : goal.decreases-loop-next
decreases-loop-next l = work l.script l.self
