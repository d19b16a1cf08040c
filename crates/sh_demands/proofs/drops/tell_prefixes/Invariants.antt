use Rattle.std.proofs.Common.{fold, take}
use Rattle.sh_gains.specs.Knowing.{knowing}
use Rattle.sh_demands.specs.DropWalks as walks
use Rattle.sh_demands.specs.Reported.{AddsSince}
use Rattle.sh_demands.proofs.drops.tell_prefixes.Given as goal

-- what is reported so far is what is reported of the pieces so far
abbrev pub invariant-loop-element : goal.invariant-loop-element
invariant-loop-element l = AddsSince l.start l.initial.reports l.reports (λ k ps. fold (walks.prefix_step l.script (knowing l.known).facts k l.at) ps (take l.element-index l.elements))
