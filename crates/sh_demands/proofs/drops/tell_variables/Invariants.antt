use Rattle.std.proofs.Common.{fold, take}
use Rattle.sh_demands.specs.DropWalks as walks
use Rattle.sh_demands.specs.Reported.{AddsSince}
use Rattle.sh_demands.proofs.drops.tell_variables.Given as goal

-- what is reported so far is what is reported of the pieces so far
abbrev pub invariant-loop-operand : goal.invariant-loop-operand
invariant-loop-operand l = AddsSince l.start l.initial.reports l.reports (λ k ps. fold (walks.variable_step l.script k l.at) ps (take l.operand-index l.operands))
