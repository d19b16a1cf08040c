-- The commands that break a flow rule, each with that rule.
-- The standard has no such rules: what is claimed of a place has to be known there in every run.
use Rattle.std.specs.Prelude.{ℕ, ◌==◌, ltb, Bool, true, false, ◌&&◌, ◌||◌, if◌then◌else◌, List, [], ◌∷◌, flat_map, fold, Option, Some, None}
use Rattle.std.specs.List.{list_all}
use Rattle.sh_tree.specs.standard.program.Syntax.{Items}
use Rattle.sh_runs.specs.standard.runs.Environment.{is_one_of}
use Rattle.sh_domain.specs.declared.rule.FlowRule.{FlowRule}
use Rattle.sh_domain.specs.declared.rule.FlowRule.TheVariants.{F1, F2, F3, F4, F5, F6, F7, F8, F9, F10, F11, F12, F13, F14, F15}
use Rattle.sh_domain.specs.Facts.{Facts, within}
use Rattle.sh_domain.specs.Operands.{Names}
use Rattle.sh_domain.specs.Rules.{Constraint, Within, Counted, script_bounds}
use Rattle.sh_domain.specs.Views.{Certificate, view_facts, lost}

-- a command, by its number, and a rule that it breaks
pub record Fault : Type 0 where
  pub number : ℕ
  pub rule : FlowRule

-- these names are among those
unfoldable pub are_among : Names → Names → Bool
are_among a b = list_all (is_one_of b.vars) a.vars && list_all (is_one_of b.functions) a.functions

-- a command and a rule, if the rule's test fails there
unfoldable pub told : Bool → ℕ → FlowRule → List Fault
told true n rule = []
told false n rule = record { number = n; rule = rule } ∷ []

-- the fault of a constraint that fails
unfoldable pub broken : Facts → Certificate → Constraint → List Fault
broken start c (Within slot n rule v) = told (within (c.claim slot) (view_facts start c v)) n rule
broken start c (Counted function n loss) = told (are_among (lost start c n loss) (c.drops function)) n F13

-- the faults of a certificate of a script
unfoldable pub faults : Facts → Certificate → Items → List Fault
faults start c t = flat_map (broken start c) (script_bounds t)

-- the place of a rule in their order
unfoldable pub rank : FlowRule → ℕ
rank F1 = 1
rank F2 = 2
rank F3 = 3
rank F4 = 4
rank F5 = 5
rank F6 = 6
rank F7 = 7
rank F8 = 8
rank F9 = 9
rank F10 = 10
rank F11 = 11
rank F12 = 12
rank F13 = 13
rank F14 = 14
rank F15 = 15

-- by command, then by rule
unfoldable pub precedes : Fault → Fault → Bool
precedes a b = ltb a.number b.number || ((a.number == b.number) && ltb (rank a.rule) (rank b.rule))

unfoldable pub lesser : Option Fault → Fault → Option Fault
lesser None b = Some b
lesser (Some a) b = if precedes b a then Some b else Some a

-- the least command that breaks a rule, with the least of the rules that it breaks
unfoldable pub least : List Fault → Option Fault
least fs = fold lesser None fs
