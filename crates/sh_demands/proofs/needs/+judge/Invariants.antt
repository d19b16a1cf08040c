use Rattle.std.proofs.Common.{fold, take}
use Rattle.sh_gains.specs.Knowing.{knowing}
use Rattle.sh_demands.specs.Walks as walks
use Rattle.sh_demands.specs.Reported.{Judges}
use Rattle.sh_demands.proofs.needs.+judge.Given as goal

-- what is judged so far is what is judged of the pieces so far
abbrev pub invariant-judge_parts-loop-part : goal.invariant-judge_parts-loop-part
invariant-judge_parts-loop-part l = Judges (knowing l.initial.known) l.initial.reports (knowing l.known) l.reports (λ s. fold (walks.part_step l.script) s (take l.part-index l.parts))

abbrev pub invariant-judge_operands-loop-link : goal.invariant-judge_operands-loop-link
invariant-judge_operands-loop-link l = Judges (knowing l.initial.known) l.initial.reports (knowing l.known) l.reports (λ s. fold (walks.operand_step l.script) s (take l.link-index l.rest))
