-- The commands of a script, those in its words included.
-- POSIX.1-2024, XCU 2.9 (shell commands), 2.6.3 (command substitution), 2.7.4 (here-documents).
use Rattle.std.specs.Prelude.{List, [], ◌∷◌, ◌++◌}
use Rattle.std.specs.List.{flat_map}
use Rattle.sh_tree.specs.declared.tree.Script.{Script, Script', Row_of-Item, end_of-Item, more_of-Item}
use Rattle.sh_tree.specs.declared.tree.Item.{Item, Item'}
use Rattle.sh_tree.specs.declared.tree.AndOr.{AndOr, AndOr', Row_of-AndOr-rest-2, end_of-AndOr-rest-2, more_of-AndOr-rest-2}
use Rattle.sh_tree.specs.declared.tree.Pipe.{Pipe, Pipe', Row_of-Command, end_of-Command, more_of-Command}
use Rattle.sh_tree.specs.declared.tree.Command.{Command, Command', Row_of-Redirect, end_of-Redirect, more_of-Redirect}
use Rattle.sh_tree.specs.declared.tree.Kind.{Kind, Simple', Group, Subshell, Cond', Loop, For', Branches', Define', Row_of-Element, end_of-Element, more_of-Element, Row_of-Branch, end_of-Branch, more_of-Branch, Row_of-Word, end_of-Word, more_of-Word, Row_of-Clause, end_of-Clause, more_of-Clause, Held-Kind-Cond-1, Kind-Cond-1-None', Kind-Cond-1-Some', Held-Kind-For-1, Kind-For-1-None', Kind-For-1-Some'}
use Rattle.sh_tree.specs.declared.tree.Link.{Link}
use Rattle.sh_tree.specs.declared.tree.Binary.{Binary}
use Rattle.sh_tree.specs.declared.tree.Redirect.{Redirect}
use Rattle.sh_tree.specs.declared.tree.Word.{Word}
use Rattle.sh_tree.specs.declared.tree.Branch.{Branch, Branch'}
use Rattle.sh_tree.specs.declared.tree.Clause.{Clause, Clause'}
use Rattle.sh_tree.specs.declared.tree.Element.{Element, Assignment', Word', Redirection'}
use Rattle.sh_tree.specs.declared.tree.Target.{Target, File', Here'}
use Rattle.sh_tree.specs.declared.tree.Part.{Part, Double', Param', Arith', Row_of-Part, end_of-Part, more_of-Part}
use Rattle.sh_tree.specs.declared.tree.Part.TheVariants as part
use Rattle.sh_tree.specs.declared.tree.ParameterOperator.{ParameterOperator, Use', Remove'}
use Rattle.sh_tree.specs.declared.tree.Expr.{Expr, Expansion, Parenthesis', Unary', Chain', Choice', Assign', Row_of-Expr, end_of-Expr, more_of-Expr, Row_of-Expr-Chain-1-2, end_of-Expr-Chain-1-2, more_of-Expr-Chain-1-2}

-- The commands in each piece of a tree, a command before those in it

unfoldable mutual
  pub of_script : Script → List Command
  of_script (Script' shape items) = of_items items

  pub of_items : {m : _} → Row_of-Item m → List Command
  of_items end_of-Item = []
  of_items (more_of-Item x rest) = of_item x ++ of_items rest

  pub of_item : Item → List Command
  of_item (Item' list background) = of_and_or list

  pub of_and_or : AndOr → List Command
  of_and_or (AndOr' first shape rest) = of_pipe first ++ of_links rest

  pub of_links : {m : _} → Row_of-AndOr-rest-2 m → List Command
  of_links end_of-AndOr-rest-2 = []
  of_links (more_of-AndOr-rest-2 link x rest) = of_pipe x ++ of_links rest

  pub of_pipe : Pipe → List Command
  of_pipe (Pipe' negated shape parts) = of_commands parts

  pub of_commands : {m : _} → Row_of-Command m → List Command
  of_commands end_of-Command = []
  of_commands (more_of-Command x rest) = of_command x ++ of_commands rest

  pub of_command : Command → List Command
  of_command (Command' number at kind shape redirects) = Command' number at kind shape redirects ∷ (of_kind kind ++ of_redirects redirects)

  pub of_redirects : {m : _} → Row_of-Redirect m → List Command
  of_redirects end_of-Redirect = []
  of_redirects (more_of-Redirect at number target rest) = of_target target ++ of_redirects rest

  pub of_kind : Kind → List Command
  of_kind (Simple' shape elements) = of_elements elements
  of_kind (Group list) = of_script list
  of_kind (Subshell list) = of_script list
  of_kind (Cond' shape branches otherwise) = of_branches branches ++ of_otherwise otherwise
  of_kind (Loop kind condition body) = of_script condition ++ of_script body
  of_kind (For' name words body) = of_list words ++ of_script body
  of_kind (Branches' span shape parts shape' clauses) = of_parts parts ++ of_clauses clauses
  of_kind (Define' name shape body) = of_commands body

  pub of_elements : {m : _} → Row_of-Element m → List Command
  of_elements end_of-Element = []
  of_elements (more_of-Element x rest) = of_element x ++ of_elements rest

  pub of_element : Element → List Command
  of_element (Assignment' name span shape parts) = of_parts parts
  of_element (Word' span shape parts) = of_parts parts
  of_element (Redirection' at number target) = of_target target

  pub of_branches : {m : _} → Row_of-Branch m → List Command
  of_branches end_of-Branch = []
  of_branches (more_of-Branch x rest) = of_branch x ++ of_branches rest

  pub of_branch : Branch → List Command
  of_branch (Branch' condition body) = of_script condition ++ of_script body

  pub of_otherwise : Held-Kind-Cond-1 → List Command
  of_otherwise Kind-Cond-1-None' = []
  of_otherwise (Kind-Cond-1-Some' list) = of_script list

  pub of_list : Held-Kind-For-1 → List Command
  of_list Kind-For-1-None' = []
  of_list (Kind-For-1-Some' shape words) = of_words words

  pub of_words : {m : _} → Row_of-Word m → List Command
  of_words end_of-Word = []
  of_words (more_of-Word span shape parts rest) = of_parts parts ++ of_words rest

  pub of_clauses : {m : _} → Row_of-Clause m → List Command
  of_clauses end_of-Clause = []
  of_clauses (more_of-Clause x rest) = of_clause x ++ of_clauses rest

  pub of_clause : Clause → List Command
  of_clause (Clause' shape patterns body end) = of_words patterns ++ of_script body

  pub of_target : Target → List Command
  of_target (File' direction span shape parts) = of_parts parts
  of_target (Here' strip span shape delimiter span' shape' body end) = of_parts delimiter ++ of_parts body

  pub of_parts : {m : _} → Row_of-Part m → List Command
  of_parts end_of-Part = []
  of_parts (more_of-Part x rest) = of_part x ++ of_parts rest

  pub of_part : Part → List Command
  of_part (Double' span shape parts) = of_parts parts
  of_part (Param' span subject operator) = of_operator operator
  of_part (Arith' span shape expression) = of_expressions expression
  of_part (part.Command style span list) = of_script list
  of_part _ = []

  pub of_operator : ParameterOperator → List Command
  of_operator (Use' action colon span shape parts) = of_parts parts
  of_operator (Remove' removal span shape parts) = of_parts parts
  of_operator _ = []

  pub of_expressions : {m : _} → Row_of-Expr m → List Command
  of_expressions end_of-Expr = []
  of_expressions (more_of-Expr x rest) = of_expression x ++ of_expressions rest

  pub of_chain : {m : _} → Row_of-Expr-Chain-1-2 m → List Command
  of_chain end_of-Expr-Chain-1-2 = []
  of_chain (more_of-Expr-Chain-1-2 operator x rest) = of_expression x ++ of_chain rest

  pub of_expression : Expr → List Command
  of_expression (Expansion x) = of_part x
  of_expression (Parenthesis' shape x) = of_expressions x
  of_expression (Unary' operator shape x) = of_expressions x
  of_expression (Chain' shape first shape' rest) = of_expressions first ++ of_chain rest
  of_expression (Choice' s condition s' then_one s'' else_one) = of_expressions condition ++ of_expressions then_one ++ of_expressions else_one
  of_expression (Assign' name operator shape x) = of_expressions x
  of_expression _ = []

abbrev pub of_link : Link × Pipe → List Command
of_link x = of_pipe x.1

abbrev pub of_step : Binary × Expr → List Command
of_step x = of_expression x.1

abbrev pub of_redirect : Redirect → List Command
of_redirect r = of_target r.target

abbrev pub of_word : Word → List Command
of_word w = flat_map of_part w.parts

-- all commands of a script
abbrev pub commands_of : Script → List Command
commands_of t = of_script t
