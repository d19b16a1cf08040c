use Rattle.std.proofs.Common.{fold, take}
use Rattle.sh_gains.specs.Knowing.{knowing}
use Rattle.sh_demands.specs.OwnWalks as walks
use Rattle.sh_demands.specs.Reported.{Judges}
use Rattle.sh_demands.proofs.own.judge_elements.Given as goal

-- what is judged so far is what is judged of the pieces so far
abbrev pub invariant-loop-element : goal.invariant-loop-element
invariant-loop-element l = Judges (knowing l.initial.known) l.initial.reports (knowing l.known) l.reports (λ s. fold (walks.element_step l.script (knowing l.behind)) s (take l.element-index l.elements))
