-- Whether a command substitution is in a piece of a word, or in the words of a command.
-- POSIX.1-2024, XCU 2.6.2 (parameter expansion), 2.6.3 (command substitution), 2.6.4 (arithmetic
-- expansion), 2.7 (redirection).
use Rattle.std.specs.Prelude.{◌≡◌, ℕ, Bool, true, false, ◌||◌, List, []}
use Rattle.sh_tree.specs.declared.tree.Binary.{Binary}
use Rattle.sh_tree.specs.declared.tree.Element.{Element}
use Rattle.sh_tree.specs.declared.tree.Expr.{Expr}
use Rattle.sh_tree.specs.declared.tree.ParameterOperator.{ParameterOperator}
use Rattle.sh_tree.specs.declared.tree.Part.{Part}
use Rattle.sh_tree.specs.declared.tree.Target.{Target}
use Rattle.sh_tree.specs.Lists.{element_from}
use Rattle.sh_tree.specs.standard.program.Syntax as p
use Rattle.sh_tree.specs.standard.program.Trees as trees
use Rattle.sh_domain.specs.Entries.{word_entered, elements_entered, redirects_entered}
use Rattle.sh_domain.specs.Views.{Seen}

unfoldable mutual
  pub part_substitutes : p.Part → Bool
  part_substitutes (p.Double w) = word_substitutes w
  part_substitutes (p.Expansion at parameter operator) = operator_substitutes operator
  part_substitutes (p.Arithmetic at e) = expression_substitutes e
  part_substitutes (p.Substitution at list) = true
  part_substitutes _ = false

  pub word_substitutes : p.Word → Bool
  word_substitutes p.no_parts = false
  word_substitutes (p.more_parts x w) = part_substitutes x || word_substitutes w

  -- in the word after it
  pub operator_substitutes : p.Operator → Bool
  operator_substitutes (p.Use action colon w) = word_substitutes w
  operator_substitutes (p.Remove removal w) = word_substitutes w
  operator_substitutes _ = false

  pub expression_substitutes : p.Expression → Bool
  expression_substitutes (p.Constant t) = false
  expression_substitutes (p.Name at name) = false
  expression_substitutes (p.Expanded x) = part_substitutes x
  expression_substitutes (p.Parenthesis e) = expression_substitutes e
  expression_substitutes (p.Signed operator e) = expression_substitutes e
  expression_substitutes (p.Chain e rest) = expression_substitutes e || operands_substitute rest
  expression_substitutes (p.Choice e then_one else_one) = expression_substitutes e || expression_substitutes then_one || expression_substitutes else_one
  expression_substitutes (p.Assigned at name operator e) = expression_substitutes e

  pub operands_substitute : p.Operands → Bool
  operands_substitute p.no_operands = false
  operands_substitute (p.more_operands operator e rest) = expression_substitutes e || operands_substitute rest

-- in the name of a file, or in the body of a here-document
unfoldable pub redirect_substitutes : p.Redirect → Bool
redirect_substitutes (p.File w) = word_substitutes w
redirect_substitutes (p.Here w) = word_substitutes w

unfoldable pub redirects_substitute : p.Redirects → Bool
redirects_substitute p.no_redirects = false
redirects_substitute (p.more_redirects r rs) = redirect_substitutes r || redirects_substitute rs

unfoldable pub elements_substitute : p.Elements → Bool
elements_substitute p.no_elements = false
elements_substitute (p.assignment name value es) = word_substitutes value || elements_substitute es
elements_substitute (p.operand w es) = word_substitutes w || elements_substitute es
elements_substitute (p.redirection r es) = redirect_substitutes r || elements_substitute es

-- If there is none, no command is entered.
pub record EntersNothing : Type 0 where
  pub words : (w : p.Word) → word_substitutes w ≡ false → (s : Seen) → word_entered s w ≡ []
  pub redirections : (rs : p.Redirects) → redirects_substitute rs ≡ false → (s : Seen) → redirects_entered s rs ≡ []
  pub elements : (es : p.Elements) → elements_substitute es ≡ false → (s behind : Seen) → elements_entered s behind es ≡ []

-- Clauses of private functions: the same in a tree.

unfoldable pub part_has : List ℕ → Part → Bool
part_has b x = part_substitutes (trees.part_of b x)

unfoldable pub operator_has : List ℕ → ParameterOperator → Bool
operator_has b o = operator_substitutes (trees.operator_of b o)

unfoldable pub expression_has : List ℕ → Expr → Bool
expression_has b e = expression_substitutes (trees.expression_of b e)

abbrev pub step_has : List ℕ → Binary × Expr → Bool
step_has b x = expression_has b x.1

unfoldable pub target_has : List ℕ → Target → Bool
target_has b t = redirect_substitutes (trees.target_of b t)

unfoldable pub element_has : List ℕ → Element → Bool
element_has b e = elements_substitute (element_from b e p.no_elements)
