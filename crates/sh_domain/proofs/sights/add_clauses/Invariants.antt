use Rattle.std.proofs.Common.{◌≡◌, ◌++◌, drop}
use Rattle.std.specs.List.{flat_map}
use Rattle.sh_domain.specs.Sights as spec
use Rattle.sh_domain.specs.SightWalks.{seen_in}
use Rattle.sh_domain.proofs.sights.add_clauses.Given as goal

-- what is found and what is left are the whole
abbrev pub invariant-loop-clause : goal.invariant-loop-clause
invariant-loop-clause l = seen_in l.found.items ++ flat_map (spec.in_clause l.script) (drop l.clause-index l.clauses) ≡ seen_in l.initial.found.items ++ flat_map (spec.in_clause l.script) l.clauses
