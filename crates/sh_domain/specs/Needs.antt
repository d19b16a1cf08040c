-- The parameters that words expand and that are not surely set, as the list of their places.
-- POSIX.1-2024, XCU 2.6.1 (tilde expansion), 2.6.2 (parameter expansion), 2.6.4 (arithmetic
-- expansion).
use Rattle.std.specs.Prelude.{ℕ, Bool, true, false, List, [], ◌∷◌, ◌++◌, codes, Option, Some, None}
use Rattle.sh_tree.specs.declared.place.Place.{Place}
use Rattle.sh_tree.specs.declared.place.Code.{Code}
use Rattle.sh_tree.specs.declared.place.Code.TheVariants.{U1, U2, U3}
use Rattle.sh_tree.specs.declared.tree.Action.TheVariants as action
use Rattle.sh_tree.specs.declared.tree.Special.TheVariants as special
use Rattle.sh_tree.specs.standard.program.Syntax as p
use Rattle.sh_tree.specs.standard.program.Syntax.{Text}
use Rattle.sh_runs.specs.standard.runs.Numbers.{digits}
use Rattle.sh_domain.specs.Facts.{Facts, Variable, Parameters, claims}
use Rattle.sh_domain.specs.Gains.{sure, part_gains, expanded_gains, redirect_gains, with_gains, through, job}

-- a place, unless what it needs is known
unfoldable pub wanted : Bool → ℕ → Code → Text → List Place
wanted true at code t = []
wanted false at code t = record { at = at; code = code; subject = t } ∷ []

-- the parameter is surely set; special parameters other than `!` always are
unfoldable pub covers : Facts → p.Parameter → Bool
covers f (p.Variable name) = claims f (Variable name)
covers f (p.Positional n) = claims f (Parameters n)
covers f (p.Special special.Exclamation) = claims f (Variable job)
covers f (p.Special _) = true

unfoldable pub parameter_text : p.Parameter → Text
parameter_text (p.Variable name) = name
parameter_text (p.Positional n) = digits n
parameter_text (p.Special _) = job

-- the parameter of an expansion that starts there
abbrev pub needed : Facts → ℕ → p.Parameter → List Place
needed f at parameter = wanted (covers f parameter) at U1 (parameter_text parameter)

unfoldable pub name_needed : Facts → Code → ℕ → Text → List Place
name_needed f code at name = wanted (claims f (Variable name)) at code name

-- `op=` reads the name at its left, and `=` does not
unfoldable pub target_needed : {A : Type 0} → Facts → Option A → ℕ → Text → List Place
target_needed f None at name = []
target_needed f (Some operator) at name = name_needed f U3 at name

-- the names that arithmetic reads
unfoldable mutual
  pub reads_unmet : Facts → p.Expression → List Place
  reads_unmet f (p.Name at name) = name_needed f U3 at name
  reads_unmet f (p.Parenthesis e) = reads_unmet f e
  reads_unmet f (p.Signed operator e) = reads_unmet f e
  reads_unmet f (p.Chain e rest) = reads_unmet f e ++ operands_read f rest
  reads_unmet f (p.Choice e then_one else_one) = reads_unmet f e ++ reads_unmet f then_one ++ reads_unmet f else_one
  reads_unmet f (p.Assigned at name operator e) = target_needed f operator at name ++ reads_unmet f e
  reads_unmet f _ = []

  pub operands_read : Facts → p.Operands → List Place
  operands_read f p.no_operands = []
  operands_read f (p.more_operands operator e rest) = reads_unmet f e ++ operands_read f rest

unfoldable mutual
  pub part_unmet : Facts → p.Part → List Place
  part_unmet f (p.Double w) = word_unmet f w
  part_unmet f (p.Expansion at parameter operator) = operator_unmet f at parameter operator
  part_unmet f (p.Arithmetic at e) = expanded_unmet f e ++ reads_unmet (with_gains (expanded_gains e) f) e
  part_unmet f (p.Tilde at []) = name_needed f U2 at (codes "HOME")
  part_unmet f _ = []

  -- each part is judged after those before it
  pub word_unmet : Facts → p.Word → List Place
  word_unmet f p.no_parts = []
  word_unmet f (p.more_parts x w) = part_unmet f x ++ word_unmet (with_gains (part_gains x) f) w

  -- `-`, `=`, `?` and `+` need no parameter, and if the word of `+` is expanded it is set
  pub operator_unmet : Facts → ℕ → p.Parameter → p.Operator → List Place
  operator_unmet f at parameter p.Value = needed f at parameter
  operator_unmet f at parameter p.Length = needed f at parameter
  operator_unmet f at parameter (p.Remove removal w) = needed f at parameter ++ word_unmet f w
  operator_unmet f at parameter (p.Use action.Alternative colon w) = word_unmet (with_gains (sure parameter) f) w
  operator_unmet f at parameter (p.Use _ colon w) = word_unmet f w

  -- the expansions in arithmetic
  pub expanded_unmet : Facts → p.Expression → List Place
  expanded_unmet f (p.Expanded x) = part_unmet f x
  expanded_unmet f (p.Parenthesis e) = expanded_unmet f e
  expanded_unmet f (p.Signed operator e) = expanded_unmet f e
  expanded_unmet f (p.Chain e rest) = expanded_unmet f e ++ operands_expanded (with_gains (expanded_gains e) f) rest
  expanded_unmet f (p.Choice e then_one else_one) =
      expanded_unmet f e
      ++ expanded_unmet (with_gains (expanded_gains e) f) then_one
      ++ expanded_unmet (with_gains (expanded_gains then_one) (with_gains (expanded_gains e) f)) else_one
  expanded_unmet f (p.Assigned at name operator e) = expanded_unmet f e
  expanded_unmet f _ = []

  pub operands_expanded : Facts → p.Operands → List Place
  operands_expanded f p.no_operands = []
  operands_expanded f (p.more_operands operator e rest) = expanded_unmet f e ++ operands_expanded (with_gains (expanded_gains e) f) rest

-- of words, one after the other
unfoldable pub words_unmet : Facts → p.Words → List Place
words_unmet f p.no_words = []
words_unmet f (p.more_words w ws) = word_unmet f w ++ words_unmet (through w f) ws

-- of words that are each judged by itself
unfoldable pub patterns_unmet : Facts → p.Words → List Place
patterns_unmet f p.no_words = []
patterns_unmet f (p.more_words w ws) = word_unmet f w ++ patterns_unmet f ws

unfoldable pub redirect_unmet : Facts → p.Redirect → List Place
redirect_unmet f (p.File w) = word_unmet f w
redirect_unmet f (p.Here w) = word_unmet f w

unfoldable pub redirects_unmet : Facts → p.Redirects → List Place
redirects_unmet f p.no_redirects = []
redirects_unmet f (p.more_redirects r rs) = redirect_unmet f r ++ redirects_unmet (with_gains (redirect_gains r) f) rs
