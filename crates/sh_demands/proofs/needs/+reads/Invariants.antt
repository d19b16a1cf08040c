use Rattle.std.proofs.Common.{fold, take}
use Rattle.sh_gains.specs.Knowing.{knowing}
use Rattle.sh_demands.specs.Walks as walks
use Rattle.sh_demands.specs.Reported.{Adds}
use Rattle.sh_demands.proofs.needs.+reads.Given as goal

-- the places so far are those of the operands so far
abbrev pub invariant-want_steps-loop-link : goal.invariant-want_steps-loop-link
invariant-want_steps-loop-link l = Adds l.initial.reports l.reports (λ ps. fold (walks.step_noted l.script (knowing l.known).facts) ps (take l.link-index l.rest))
