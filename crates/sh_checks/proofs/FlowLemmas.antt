-- From the walks over a script to what a check finds.
use Rattle.std.proofs.Common.{◌≡◌, ◌<◌, ◌≤◌, ℕ, length, true, List, None, Ok, sym, ap, ◌∙◌}
use Rattle.sh_tree.specs.Answers.{Parses}
use Rattle.sh_tree.specs.declared.limits.TheConstants.{MAX_COMMANDS, MAX_NESTING}
use Rattle.sh_tree.specs.declared.place.Place.{Place}
use Rattle.sh_tree.specs.declared.tree.Script.{Script}
use Rattle.sh_tree.specs.standard.language.Reading.{Reads}
use Rattle.sh_tree.specs.standard.program.Syntax.{Text}
use Rattle.sh_tree.specs.standard.program.Trees.{script_of}
use Rattle.sh_runs.specs.Calls.{Table, table_of}
use Rattle.sh_runs.specs.Numbering.{is_numbered}
use Rattle.sh_domain.specs.Admitted.{KeepsRules, claims_in}
use Rattle.sh_domain.specs.Facts.{Declared, start_facts}
use Rattle.sh_domain.specs.Faults.{faults}
use Rattle.sh_domain.specs.Names.{Numbers}
use Rattle.sh_domain.specs.Sheets.{Sheet}
use Rattle.sh_domain.proofs.DifferLemmas.{read_is_numbered}
use Rattle.sh_domain.proofs.LeastLemmas.{none_least}
use Rattle.sh_domain.proofs.TotalLemmas.{read_has_few_commands}
use Rattle.sh_demands.specs.Whole.{AreNamesOf}
use Rattle.sh_checks.specs.Flows.{FindsFault, Flows, LeavesUnmet, Tells, unmet_in}
use Rattle.sh_checks.specs.declared.flow.Flow.{Flow}
use Rattle.sh_checks.specs.declared.flow.Flow.TheVariants.{Holds, Rule, Demand}

module _ (b : List ℕ) (t : Script) (reading : Parses b (Ok t)) where
  reads : Reads b t
  reads = (MAX_NESTING, reading.1.0, reading.1.1)

  pub numbered : is_numbered (script_of b t) ≡ true
  numbered = read_is_numbered b t reads

  pub few : length (table_of b t).rows ≤ MAX_COMMANDS
  few = read_has_few_commands b t reading.1

pub script_kept : (b : List ℕ) (t : Script) (x : Table) → x ≡ table_of b t → x.script ≡ b
unfolding table_of
script_kept b t x e = ap (λ (y : Table). y.script) e

pub names_of : (b : List ℕ) (t : Script) (d : Declared) (names : List Text) → Numbers b t d (Ok names) → AreNamesOf b t names
names_of b t d names n = record { declared = d; numbered = n.0; few = n.1 }

pub rules_kept : (b : List ℕ) (d : Declared) (t : Script) (c : Sheet) → FindsFault b d t c None → KeepsRules b d t c
rules_kept b d t c h = none_least (faults (start_facts d) (claims_in b t c) (script_of b t)) h

-- no rule is broken, and these are the unmet demands
pub found : (b : List ℕ) (d : Declared) (t : Script) (c : Sheet) (ps : List Place) (f : Flow) → FindsFault b d t c None → ps ≡ unmet_in b d t c → Tells ps f → Flows b d t c f
found b d t c ps Holds h e n = (rules_kept b d t c h, sym n ∙ e)
found b d t c ps (Rule k r) h e n = absurd n
found b d t c ps (Demand qs) h e n = (n.0, (rules_kept b d t c h, n.1 ∙ e))

-- memory ran out over unmet demands alone
pub unmet : (b : List ℕ) (d : Declared) (t : Script) (c : Sheet) → FindsFault b d t c None → 0 < length (unmet_in b d t c) → LeavesUnmet b d t c
unmet b d t c h some = (rules_kept b d t c h, some)
