use Rattle.std.proofs.Common.{fold, take}
use Rattle.sh_gains.specs.Knowing.{knowing}
use Rattle.sh_demands.specs.OwnWalks as walks
use Rattle.sh_demands.specs.Reported.{Judges}
use Rattle.sh_demands.proofs.own.judge_clauses.Given as goal

-- what is judged so far is what is judged of the pieces so far
abbrev pub invariant-loop-clause : goal.invariant-loop-clause
invariant-loop-clause l = Judges (knowing l.known) l.initial.reports (knowing l.known) l.reports (λ s. fold (walks.clause_step l.script) s (take l.clause-index l.clauses))
