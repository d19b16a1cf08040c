use Rattle.std.proofs.Common.{fold, take}
use Rattle.sh_gains.specs.Knowing.{knowing}
use Rattle.sh_demands.specs.OwnWalks as walks
use Rattle.sh_demands.specs.Reported.{Judges}
use Rattle.sh_demands.proofs.own.judge_words.Given as goal

-- what is judged so far is what is judged of the pieces so far
abbrev pub invariant-loop-word : goal.invariant-loop-word
invariant-loop-word l = Judges (knowing l.initial.known) l.initial.reports (knowing l.known) l.reports (λ s. fold (walks.word_step l.script) s (take l.word-index l.words))
