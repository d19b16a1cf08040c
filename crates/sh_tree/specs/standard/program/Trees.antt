-- The program that a tree means: the script's bytes in place of spans.
-- POSIX.1-2024, XCU 2.2 (quoting), 2.5 (parameters), 2.6 (word expansions), 2.7 (redirection), 2.9
-- (shell commands), 2.10 (shell grammar).
use Rattle.std.specs.Prelude.{ℕ, List}
use Rattle.sh_tree.specs.declared.tree.AndOr.{AndOr, AndOr', Row_of-AndOr-rest-2, end_of-AndOr-rest-2, more_of-AndOr-rest-2}
use Rattle.sh_tree.specs.declared.tree.Branch.{Branch'}
use Rattle.sh_tree.specs.declared.tree.Clause.{Clause'}
use Rattle.sh_tree.specs.declared.tree.Command.{Command, Command', Row_of-Redirect, end_of-Redirect, more_of-Redirect}
use Rattle.sh_tree.specs.declared.tree.Element.{Assignment', Word', Redirection'}
use Rattle.sh_tree.specs.declared.tree.Expr.{Expr, Constant, Variable, Expansion, Parenthesis', Unary', Chain', Choice', Assign', Row_of-Expr, end_of-Expr, more_of-Expr, Row_of-Expr-Chain-1-2, end_of-Expr-Chain-1-2, more_of-Expr-Chain-1-2}
use Rattle.sh_tree.specs.declared.tree.Item.{Item'}
use Rattle.sh_tree.specs.declared.tree.Kind.{Kind, Simple', Group, Subshell, Cond', Loop, For', Branches', Define', Row_of-Element, end_of-Element, more_of-Element, Row_of-Branch, end_of-Branch, more_of-Branch, Row_of-Word, end_of-Word, more_of-Word, Row_of-Clause, end_of-Clause, more_of-Clause, Held-Kind-Cond-1, Kind-Cond-1-None', Kind-Cond-1-Some', Held-Kind-For-1, Kind-For-1-None', Kind-For-1-Some'}
use Rattle.sh_tree.specs.declared.tree.ParameterOperator.{ParameterOperator, Value, Length, Use', Remove'}
use Rattle.sh_tree.specs.declared.tree.Part.{Part, Plain, Escaped, Single, Double', Param', Arith', Tilde, Joined, Row_of-Part, end_of-Part, more_of-Part}
use Rattle.sh_tree.specs.declared.tree.Part.TheVariants as part
use Rattle.sh_tree.specs.declared.tree.Pipe.{Pipe, Pipe', Row_of-Command, end_of-Command, more_of-Command}
use Rattle.sh_tree.specs.declared.tree.Script.{Script, Script', Row_of-Item, end_of-Item, more_of-Item}
use Rattle.sh_tree.specs.declared.tree.Subject.{Subject}
use Rattle.sh_tree.specs.declared.tree.Subject.TheVariants as subject
use Rattle.sh_tree.specs.declared.tree.Target.{Target, File', Here'}
use Rattle.sh_tree.specs.standard.Tree.{text_of}
use Rattle.sh_tree.specs.standard.Words.{behind_first, single_text}
use Rattle.sh_tree.specs.standard.program.Syntax as p

-- a parameter (XCU 2.5)
unfoldable pub parameter_of : List ℕ → Subject → p.Parameter
parameter_of b (subject.Name s) = p.Variable (text_of b s)
parameter_of b (subject.Positional n s) = p.Positional n
parameter_of b (subject.Special c s) = p.Special c

unfoldable mutual
  -- Words (XCU 2.2, 2.6): bytes without their quoting
  pub part_of : List ℕ → Part → p.Part
  part_of b (Plain s) = p.Plain (text_of b s)
  part_of b (Escaped s) = p.Escaped (behind_first (text_of b s))
  part_of b (Single style s) = p.Single style (single_text style (text_of b s))
  part_of b (Double' s shape row) = p.Double (word_of b row)
  part_of b (Param' s subject operator) = p.Expansion s.start (parameter_of b subject) (operator_of b operator)
  part_of b (Arith' s shape row) = p.Arithmetic s.start (held_of b row)
  part_of b (part.Command style s t) = p.Substitution s.start (script_of b t)
  part_of b (Tilde s) = p.Tilde s.start (behind_first (text_of b s))
  part_of b (Joined s) = p.Joined

  pub word_of : {m : _} → List ℕ → Row_of-Part m → p.Word
  word_of b end_of-Part = p.no_parts
  word_of b (more_of-Part x rest) = p.more_parts (part_of b x) (word_of b rest)

  -- what an expansion does with its parameter (XCU 2.6.2)
  pub operator_of : List ℕ → ParameterOperator → p.Operator
  operator_of b Value = p.Value
  operator_of b Length = p.Length
  operator_of b (Use' action colon s shape row) = p.Use action colon (word_of b row)
  operator_of b (Remove' removal s shape row) = p.Remove removal (word_of b row)

  -- Arithmetic (XCU 2.6.4): the expression in a box
  pub held_of : {m : _} → List ℕ → Row_of-Expr m → p.Expression
  held_of b end_of-Expr = p.Constant (text_of b (record { start = 0; end = 0 }))
  held_of b (more_of-Expr x rest) = expression_of b x

  pub operands_of : {m : _} → List ℕ → Row_of-Expr-Chain-1-2 m → p.Operands
  operands_of b end_of-Expr-Chain-1-2 = p.no_operands
  operands_of b (more_of-Expr-Chain-1-2 operator x rest) = p.more_operands operator (expression_of b x) (operands_of b rest)

  pub expression_of : List ℕ → Expr → p.Expression
  expression_of b (Constant s) = p.Constant (text_of b s)
  expression_of b (Variable s) = p.Name s.start (text_of b s)
  expression_of b (Expansion x) = p.Expanded (part_of b x)
  expression_of b (Parenthesis' shape x) = p.Parenthesis (held_of b x)
  expression_of b (Unary' operator shape x) = p.Signed operator (held_of b x)
  expression_of b (Chain' shape first shape' rest) = p.Chain (held_of b first) (operands_of b rest)
  expression_of b (Choice' s condition s' then_one s'' else_one) = p.Choice (held_of b condition) (held_of b then_one) (held_of b else_one)
  expression_of b (Assign' s operator shape x) = p.Assigned s.start (text_of b s) operator (held_of b x)

  -- Lists and pipelines (XCU 2.9.2, 2.9.3): the program of a script
  pub script_of : List ℕ → Script → p.Items
  script_of b (Script' shape row) = items_of b row

  pub items_of : {m : _} → List ℕ → Row_of-Item m → p.Items
  items_of b end_of-Item = p.no_items
  items_of b (more_of-Item (Item' list background) rest) = p.more_items (and_or_of b list) background (items_of b rest)

  pub and_or_of : List ℕ → AndOr → p.AndOr
  and_or_of b (AndOr' first shape row) = p.and_or (pipeline_of b first) (links_of b row)

  pub links_of : {m : _} → List ℕ → Row_of-AndOr-rest-2 m → p.Links
  links_of b end_of-AndOr-rest-2 = p.no_links
  links_of b (more_of-AndOr-rest-2 link x rest) = p.more_links link (pipeline_of b x) (links_of b rest)

  pub pipeline_of : List ℕ → Pipe → p.Pipeline
  pipeline_of b (Pipe' negated shape row) = p.pipeline negated (commands_of b row)

  pub commands_of : {m : _} → List ℕ → Row_of-Command m → p.Commands
  commands_of b end_of-Command = p.no_commands
  commands_of b (more_of-Command x rest) = p.more_commands (command_of b x) (commands_of b rest)

  -- Commands (XCU 2.9.1, 2.9.4, 2.9.5)
  pub command_of : List ℕ → Command → p.Command
  command_of b (Command' number at kind shape row) = p.command number at (kind_of b kind) (redirects_of b row)

  pub kind_of : List ℕ → Kind → p.Kind
  kind_of b (Simple' shape row) = p.Simple (elements_of b row)
  kind_of b (Group list) = p.Group (script_of b list)
  kind_of b (Subshell list) = p.Subshell (script_of b list)
  kind_of b (Cond' shape branches otherwise) = p.Conditional (branches_of b branches) (otherwise_of b otherwise)
  kind_of b (Loop kind condition body) = p.Loop kind (script_of b condition) (script_of b body)
  kind_of b (For' name words body) = p.For (text_of b name) (for_words_of b words) (script_of b body)
  kind_of b (Branches' s shape word shape' clauses) = p.Case (word_of b word) (clauses_of b clauses)
  kind_of b (Define' name shape row) = p.Define (text_of b name) (body_of b row)

  -- the command in a box: the body of a function (XCU 2.9.5)
  pub body_of : {m : _} → List ℕ → Row_of-Command m → p.Command
  body_of b end_of-Command = p.command 0 0 (p.Group p.no_items) p.no_redirects
  body_of b (more_of-Command x rest) = command_of b x

  -- the elements of a simple command (XCU 2.9.1)
  pub elements_of : {m : _} → List ℕ → Row_of-Element m → p.Elements
  elements_of b end_of-Element = p.no_elements
  elements_of b (more_of-Element (Assignment' name s shape row) rest) = p.assignment (text_of b name) (word_of b row) (elements_of b rest)
  elements_of b (more_of-Element (Word' s shape row) rest) = p.operand (word_of b row) (elements_of b rest)
  elements_of b (more_of-Element (Redirection' at number target) rest) = p.redirection (target_of b target) (elements_of b rest)

  -- a redirection (XCU 2.7): of a here-document its body alone
  pub target_of : List ℕ → Target → p.Redirect
  target_of b (File' direction s shape row) = p.File (word_of b row)
  target_of b (Here' strip s shape delimiter s' shape' body end) = p.Here (word_of b body)

  pub redirects_of : {m : _} → List ℕ → Row_of-Redirect m → p.Redirects
  redirects_of b end_of-Redirect = p.no_redirects
  redirects_of b (more_of-Redirect at number target rest) = p.more_redirects (target_of b target) (redirects_of b rest)

  -- the parts of compound commands (XCU 2.9.4)
  pub branches_of : {m : _} → List ℕ → Row_of-Branch m → p.Branches
  branches_of b end_of-Branch = p.no_branches
  branches_of b (more_of-Branch (Branch' condition body) rest) = p.more_branches (script_of b condition) (script_of b body) (branches_of b rest)

  pub otherwise_of : List ℕ → Held-Kind-Cond-1 → p.Otherwise
  otherwise_of b Kind-Cond-1-None' = p.no_else
  otherwise_of b (Kind-Cond-1-Some' list) = p.else_of (script_of b list)

  pub for_words_of : List ℕ → Held-Kind-For-1 → p.ForWords
  for_words_of b Kind-For-1-None' = p.every_parameter
  for_words_of b (Kind-For-1-Some' shape row) = p.listed (words_of b row)

  pub words_of : {m : _} → List ℕ → Row_of-Word m → p.Words
  words_of b end_of-Word = p.no_words
  words_of b (more_of-Word s shape row rest) = p.more_words (word_of b row) (words_of b rest)

  pub clauses_of : {m : _} → List ℕ → Row_of-Clause m → p.Clauses
  clauses_of b end_of-Clause = p.no_clauses
  clauses_of b (more_of-Clause (Clause' shape patterns body end) rest) = p.more_clauses (words_of b patterns) (script_of b body) end (clauses_of b rest)
