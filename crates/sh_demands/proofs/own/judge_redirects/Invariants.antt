use Rattle.std.proofs.Common.{fold, take}
use Rattle.sh_gains.specs.Knowing.{knowing}
use Rattle.sh_demands.specs.OwnWalks as walks
use Rattle.sh_demands.specs.Reported.{Judges}
use Rattle.sh_demands.proofs.own.judge_redirects.Given as goal

-- what is judged so far is what is judged of the pieces so far
abbrev pub invariant-loop-redirect : goal.invariant-loop-redirect
invariant-loop-redirect l = Judges (knowing l.initial.known) l.initial.reports (knowing l.known) l.reports (λ s. fold (walks.redirect_step l.script) s (take l.redirect-index l.redirects))
