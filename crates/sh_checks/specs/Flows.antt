-- What a check of a certificate finds.
-- shset's own; the standard has none.
use Rattle.std.specs.Prelude.{◌≡◌, ◌<◌, ℕ, List, [], length, Option, Some, option_map}
use Rattle.sh_tree.specs.declared.place.Place.{Place}
use Rattle.sh_tree.specs.declared.tree.Script.{Script}
use Rattle.sh_tree.specs.standard.program.Trees.{script_of}
use Rattle.sh_domain.specs.Admitted.{KeepsRules, claims_in}
use Rattle.sh_domain.specs.Demands.{demands}
use Rattle.sh_domain.specs.Facts.{Declared, start_facts}
use Rattle.sh_domain.specs.Faults.{faults, least}
use Rattle.sh_domain.specs.Sheets.{Sheet}
use Rattle.sh_rules.specs.declared.fault.Fault as found
use Rattle.sh_rules.specs.Tells.{fault_of}
use Rattle.sh_checks.specs.declared.flow.Flow.{Flow}
use Rattle.sh_checks.specs.declared.flow.Flow.TheVariants.{Holds, Rule, Demand}

-- the places of the demands that the certificate leaves unmet
abbrev pub unmet_in : List ℕ → Declared → Script → Sheet → List Place
unmet_in b d t c = demands (start_facts d) (claims_in b t c) (script_of b t)

-- this is the least of the flow rules that it breaks, if it breaks one
abbrev pub FindsFault : List ℕ → Declared → Script → Sheet → Option found.Fault → Type 0
FindsFault b d t c o = least (faults (start_facts d) (claims_in b t c) (script_of b t)) ≡ option_map fault_of o

-- Holds if there is no place, and otherwise Demand
abbrev pub Tells : List Place → Flow → Type 0
Tells ps Holds = ps ≡ []
Tells ps (Rule k f) = ⊥
Tells ps (Demand qs) = (0 < length qs.items) × (qs.items ≡ ps)

-- the unmet demands, if no rule is broken
abbrev pub FindsPlaces : List ℕ → Declared → Script → Sheet → List Place → Type 0
FindsPlaces b d t c ps = KeepsRules b d t c × (ps ≡ unmet_in b d t c)

-- no rule is broken, and some demand is unmet
abbrev pub LeavesUnmet : List ℕ → Declared → Script → Sheet → Type 0
LeavesUnmet b d t c = KeepsRules b d t c × (0 < length (unmet_in b d t c))

-- Holds if no rule is broken and no demand unmet; Rule with the least broken rule of the least
-- command; Demand with the unmet demands.
abbrev pub Flows : List ℕ → Declared → Script → Sheet → Flow → Type 0
Flows b d t c Holds = FindsPlaces b d t c []
Flows b d t c (Rule k f) = least (faults (start_facts d) (claims_in b t c) (script_of b t)) ≡ Some (record { number = k; rule = f })
Flows b d t c (Demand ps) = (0 < length ps.items) × FindsPlaces b d t c ps.items
