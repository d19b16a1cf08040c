use Rattle.std.proofs.Common.{◌≡◌, ◌-◌, length}
use Rattle.sh_demands.specs.Kept.{AreTold}
use Rattle.sh_demands.proofs.reports.Subjects.tell.Given as goal

-- what is told stays right
abbrev pub invariant-loop-self : goal.invariant-loop-self
invariant-loop-self l = AreTold l.self.subjects.keys l.self.count l.places × (l.self.start ≡ l.initial.self.start)

abbrev pub decreases-loop-self : goal.decreases-loop-self
decreases-loop-self l = length l.places - l.self.count
