-- Clauses of private functions: the counts that one count bounds.
-- The standard has no such thing: how equations over counts are solved.
use Rattle.std.specs.List.{All}
use Rattle.sh_counts.specs.declared.bounded.Bounded.{Bounded}
use Rattle.sh_counts.specs.declared.equations.Equations.{Equations}
use Rattle.sh_counts.specs.Falls.{Leads}

-- in each solution each count that was met is at most what its way makes of the head
abbrev pub AreLed : Equations → Bounded → Type 0
AreLed es b = All (λ r. Leads es r.way r.index b.head) b.reached.items
