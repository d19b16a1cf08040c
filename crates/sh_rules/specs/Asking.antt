-- What is done with what the flow rules require at a command: whatever is kept of it, by the places
-- and the functions of which they require it.
-- The standard has no such rules: what is claimed of a place has to be known there in every run.
use Rattle.std.specs.Prelude.{◌≡◌, [], ◌∷◌, ◌++◌}
use Rattle.sh_tree.specs.standard.program.Syntax.{Text}
use Rattle.sh_domain.specs.Facts.{Facts}
use Rattle.sh_domain.specs.Faults.{Fault}
use Rattle.sh_domain.specs.Operands.{Names, no_names}
use Rattle.sh_domain.specs.Views.{Slot}
use Rattle.sh_rules.specs.Settings.{Setting}

-- these names and those
abbrev pub both_names : Names → Names → Names
both_names a b = record { vars = a.vars ++ b.vars; functions = a.functions ++ b.functions }

-- one name alone
abbrev pub one_variable : Text → Names
one_variable t = record { vars = t ∷ []; functions = [] }

abbrev pub one_function : Text → Names
one_function t = record { vars = []; functions = t ∷ [] }

pub record Asking (K : Type 0) : Type 0 where
  -- this place may claim no more than these facts
  pub bound : Setting → Slot → Fault → Facts → K → K
  -- this function drops these names
  pub drop : Setting → Text → Fault → Names → K → K
  -- no names ask nothing, and names together what they ask one after the other
  pub drops_nothing : (x : Setting) (function : Text) (f : Fault) (kept : K) → drop x function f no_names kept ≡ kept
  pub drops_both : (x : Setting) (function : Text) (f : Fault) (a b : Names) (kept : K) → drop x function f (both_names a b) kept ≡ drop x function f b (drop x function f a kept)
