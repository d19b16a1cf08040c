-- Clauses of private functions: what is kept of names that a simple command drops, if some run
-- comes to it.
-- POSIX.1-2024, XCU 2.9.1 (simple commands), 2.9.5 (function definitions), 2.15 (unset).
use Rattle.std.specs.Prelude.{ℕ, Bool, not, List, filter, fold}
use Rattle.sh_tree.specs.declared.tree.Element.{Element}
use Rattle.sh_tree.specs.Lists.{element_from}
use Rattle.sh_tree.specs.standard.program.Syntax as p
use Rattle.sh_tree.specs.standard.program.Syntax.{Text}
use Rattle.sh_runs.specs.Profile.{Static}
use Rattle.sh_runs.specs.standard.runs.Environment.{is_one_of}
use Rattle.sh_domain.specs.declared.rule.FlowRule.TheVariants.{F13}
use Rattle.sh_domain.specs.Facts.{Facts, Nowhere, Variable, claims}
use Rattle.sh_domain.specs.Operands.{Names}
use Rattle.sh_domain.specs.Table.{prefixes}
use Rattle.sh_domain.specs.Views.{Before}
use Rattle.sh_rules.specs.Asking.{Asking, one_variable, one_function}
use Rattle.sh_rules.specs.Bounds.{fault}
use Rattle.sh_rules.specs.Losses.{if_wanted}
use Rattle.sh_rules.specs.Settings.{Setting, known_at}
use Rattle.sh_rules.specs.Texts.{unset_by}

unfoldable pub is_reached : Setting → ℕ → Bool
is_reached x n = not (claims (known_at x (Before n)) Nowhere)

-- what `unset` drops: of functions those that the script defines
abbrev pub unset_dropped : Setting → List Static → Names
unset_dropped x ts = record { vars = (unset_by ts).vars; functions = filter (is_one_of x.functions) (unset_by ts).functions }

module _ {K : Type 0} (a : Asking K) (x : Setting) (n : ℕ) (function : Text) where
  unfoldable pub variable_dropped : K → Text → K
  variable_dropped kept t = a.drop x function (fault n F13) (one_variable t) kept

  unfoldable pub function_dropped : K → Text → K
  function_dropped kept t = a.drop x function (fault n F13) (one_function t) kept

  -- a function of the script
  unfoldable pub defined_dropped : K → Text → K
  defined_dropped kept t = if_wanted (is_one_of x.functions) function_dropped kept t

  -- a variable that is not known to be set
  unfoldable pub unknown_dropped : Facts → K → Text → K
  unknown_dropped k kept t = if_wanted (λ u. not (claims k (Variable u))) variable_dropped kept t

  -- the name of a prefix assignment
  unfoldable pub prefix_dropped : Facts → K → Element → K
  prefix_dropped k kept e = fold (unknown_dropped k) kept (prefixes (element_from x.script e p.no_elements))
