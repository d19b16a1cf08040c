-- What is gathered follows the constraints.
-- The standard has no such rules: what is claimed of a place has to be known at each place from
-- which it is entered.
use Rattle.std.specs.Prelude.{◌≡◌, ℕ, true, List, ◌++◌}
use Rattle.sh_tree.specs.standard.program.Syntax.{Text}
use Rattle.sh_domain.specs.declared.rule.FlowRule.{FlowRule}
use Rattle.sh_domain.specs.Facts.{Facts}
use Rattle.sh_domain.specs.Knowledge.{AreNumbered, among}
use Rattle.sh_domain.specs.Operands.{Names, no_names}
use Rattle.sh_domain.specs.Order.{seen_facts}
use Rattle.sh_domain.specs.Reading.{claim_fits}
use Rattle.sh_domain.specs.Rules.{Constraint, bound}
use Rattle.sh_domain.specs.Views.{Certificate, Slot, Seen}
use Rattle.sh_drafts.specs.Gathered.{Gathered, bounded, counted, all_gathered}

-- Without names nothing is required. Names together require what they require one after the other.
-- Several views at a place require what is known of the numbered names where all are seen. Lists of
-- constraints follow one after the other.
pub record GatheredTogether : Type 0 where
  pub nothing : (names functions : List Text) (f : Text) (may : Names) (g : Gathered) → counted names functions f may no_names g ≡ g
  pub names : (names functions : List Text) (f : Text) (may a b : Names) (g : Gathered)
      → counted names functions f may (record { vars = a.vars ++ b.vars; functions = a.functions ++ b.functions }) g ≡ counted names functions f may b (counted names functions f may a g)
  pub views : (names functions : List Text) → AreNumbered names → (start : Facts) (c : Certificate) (slot : Slot) → claim_fits names (c.claim slot) ≡ true → (n : ℕ) (rule : FlowRule) (s : Seen) (g : Gathered)
      → all_gathered names functions start c g (bound slot n rule s) ≡ bounded names functions slot (c.claim slot) (among names (seen_facts start c s)) g
  pub lists : (names functions : List Text) (start : Facts) (c : Certificate) (g : Gathered) (ks ls : List Constraint)
      → all_gathered names functions start c g (ks ++ ls) ≡ all_gathered names functions start c (all_gathered names functions start c g ks) ls
