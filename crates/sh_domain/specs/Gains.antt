-- What words leave surely set, part by part.
-- POSIX.1-2024, XCU 2.6.2 (parameter expansion), 2.6.4 (arithmetic expansion): an expansion that
-- assigns, or that ends the shell if its parameter is not set.
use Rattle.std.specs.Prelude.{ℕ, max, ◌||◌, List, [], ◌∷◌, ◌++◌, codes}
use Rattle.sh_tree.specs.declared.tree.Action.TheVariants as action
use Rattle.sh_tree.specs.declared.tree.Binary.{Binary}
use Rattle.sh_tree.specs.declared.tree.Binary.TheVariants as binary
use Rattle.sh_tree.specs.declared.tree.Special.TheVariants as special
use Rattle.sh_tree.specs.standard.program.Syntax.{Text, Parameter, Variable, Positional, Special, Part, Double, Expansion, Arithmetic, Word, no_parts, more_parts, Operator, Use, Expression, Expanded, Parenthesis, Signed, Chain, Choice, Assigned, Operands, no_operands, more_operands, Redirect, File, Here, Redirects, no_redirects, more_redirects, Words, no_words, more_words}
use Rattle.sh_runs.specs.standard.runs.Environment.{is_one_of}
use Rattle.sh_domain.specs.Facts.{Facts, NotReached, Known}

-- variables that are set after something, and so many positional parameters
pub record Gains : Type 0 where
  pub names : List Text
  pub args : ℕ

abbrev pub no_gains : Gains
no_gains = record { names = []; args = 0 }

abbrev pub named : List Text → Gains
named names = record { names = names; args = 0 }

abbrev pub and_gains : Gains → Gains → Gains
and_gains g h = record { names = g.names ++ h.names; args = max g.args h.args }

-- the facts with these
unfoldable pub with_gains : Gains → Facts → Facts
with_gains g NotReached = NotReached
with_gains g (Known v f a) = Known (λ x. is_one_of g.names x || v x) f (max a g.args)

abbrev pub job : Text
job = codes "!"

-- that this parameter is set; special parameters other than `!` always are
unfoldable pub sure : Parameter → Gains
sure (Variable name) = named (name ∷ [])
sure (Positional n) = record { names = []; args = n }
sure (Special special.Exclamation) = named (job ∷ [])
sure (Special _) = no_gains

-- after `${p=w}` and `${p?w}` p is set; what a word after an operator would set is not counted
unfoldable pub operator_gains : Parameter → Operator → Gains
operator_gains p (Use action.Assign colon w) = sure p
operator_gains p (Use action.Fault colon w) = sure p
operator_gains p _ = no_gains

-- `&&` and `||` may skip their right operand
unfoldable pub surely : Binary → List Text → List Text
surely binary.And names = []
surely binary.Or names = []
surely _ names = names

-- the names that arithmetic is sure to assign: not on the right of `&&` and `||`, and not in a
-- branch of `?:`
unfoldable mutual
  pub assigned_in : Expression → List Text
  assigned_in (Parenthesis e) = assigned_in e
  assigned_in (Signed operator e) = assigned_in e
  assigned_in (Chain e rest) = assigned_in e ++ operands_assigned rest
  assigned_in (Choice e then_one else_one) = assigned_in e
  assigned_in (Assigned at name operator e) = name ∷ assigned_in e
  assigned_in _ = []

  pub operands_assigned : Operands → List Text
  operands_assigned no_operands = []
  operands_assigned (more_operands operator e rest) = surely operator (assigned_in e) ++ operands_assigned rest

unfoldable mutual
  pub part_gains : Part → Gains
  part_gains (Double w) = word_gains w
  part_gains (Expansion at p operator) = operator_gains p operator
  part_gains (Arithmetic at e) = and_gains (expanded_gains e) (named (assigned_in e))
  part_gains _ = no_gains

  pub word_gains : Word → Gains
  word_gains no_parts = no_gains
  word_gains (more_parts x w) = and_gains (part_gains x) (word_gains w)

  -- of the expansions in arithmetic, which all come before it is computed
  pub expanded_gains : Expression → Gains
  expanded_gains (Expanded x) = part_gains x
  expanded_gains (Parenthesis e) = expanded_gains e
  expanded_gains (Signed operator e) = expanded_gains e
  expanded_gains (Chain e rest) = and_gains (expanded_gains e) (operands_gains rest)
  expanded_gains (Choice e then_one else_one) = and_gains (expanded_gains e) (and_gains (expanded_gains then_one) (expanded_gains else_one))
  expanded_gains (Assigned at name operator e) = expanded_gains e
  expanded_gains _ = no_gains

  pub operands_gains : Operands → Gains
  operands_gains no_operands = no_gains
  operands_gains (more_operands operator e rest) = and_gains (expanded_gains e) (operands_gains rest)

-- the facts after a word
abbrev pub through : Word → Facts → Facts
through w f = with_gains (word_gains w) f

-- of words, one after the other
unfoldable pub words_gains : Words → Gains
words_gains no_words = no_gains
words_gains (more_words w ws) = and_gains (word_gains w) (words_gains ws)

-- of the word that a redirection opens, or of the body of a here-document
unfoldable pub redirect_gains : Redirect → Gains
redirect_gains (File w) = word_gains w
redirect_gains (Here w) = word_gains w

unfoldable pub redirects_gains : Redirects → Gains
redirects_gains no_redirects = no_gains
redirects_gains (more_redirects r rs) = and_gains (redirect_gains r) (redirects_gains rs)
