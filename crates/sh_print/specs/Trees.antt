-- The bare tree that a tree of a text means: the text's bytes in place of spans.
-- POSIX.1-2024, XCU 2.7 (redirection), 2.9 (shell commands).
use Rattle.std.specs.Prelude.{ℕ, List, [], map, Option, None, Some}
use Rattle.std.specs.Option.{option_map}
use Rattle.sh_tree.specs.declared.tree.AndOr.{AndOr', Row_of-AndOr-rest-2, end_of-AndOr-rest-2, more_of-AndOr-rest-2}
use Rattle.sh_tree.specs.declared.tree.Branch.{Branch'}
use Rattle.sh_tree.specs.declared.tree.Clause.{Clause'}
use Rattle.sh_tree.specs.declared.tree.Command.{Command, Command', items-the_row-Redirect}
use Rattle.sh_tree.specs.declared.tree.Element.{Element, Assignment', Word', Redirection'}
use Rattle.sh_tree.specs.declared.tree.Item.{Item'}
use Rattle.sh_tree.specs.declared.tree.Kind.{Kind, Simple', Group, Subshell, Cond', Loop, For', Branches', Define', items-the_row-Element, Row_of-Branch, end_of-Branch, more_of-Branch, items-the_row-Word, Row_of-Clause, end_of-Clause, more_of-Clause, Held-Kind-Cond-1, Kind-Cond-1-None', Kind-Cond-1-Some', Held-Kind-For-1, Kind-For-1-None', Kind-For-1-Some'}
use Rattle.sh_tree.specs.declared.tree.Pipe.{Pipe, Pipe', Row_of-Command, end_of-Command, more_of-Command}
use Rattle.sh_tree.specs.declared.tree.Redirect.{Redirect}
use Rattle.sh_tree.specs.declared.tree.Script.{Script, Script', Row_of-Item, end_of-Item, more_of-Item}
use Rattle.sh_tree.specs.declared.tree.Target.{Target, File', Here'}
use Rattle.sh_tree.specs.declared.tree.Word.{Word}
use Rattle.sh_tree.specs.standard.Tree.{text_of}
use Rattle.sh_tree.specs.standard.language.Trees as tree
use Rattle.sh_print.specs.Bare as bare

-- a word is its bytes
abbrev pub word_of : List ℕ → Word → bare.Text
word_of b w = text_of b w.span

unfoldable pub opens_of : List ℕ → Target → bare.Opens
opens_of b (File' direction s shape row) = bare.File direction
opens_of b (Here' strip s shape delimiter s' shape' body end) = bare.Here strip (record { body = text_of b s'; end = text_of b end })

-- the word after the operator
unfoldable pub opened_of : List ℕ → Target → bare.Text
opened_of b (File' direction s shape row) = text_of b s
opened_of b (Here' strip s shape delimiter s' shape' body end) = text_of b s

abbrev pub redirect_of : List ℕ → Redirect → bare.Redirect
redirect_of b r = record { number = option_map (text_of b) r.number; opens = opens_of b r.target; word = opened_of b r.target }

unfoldable pub element_of : List ℕ → Element → bare.Element
element_of b (Assignment' name s shape row) = bare.Assigns (text_of b name) (text_of b s)
element_of b (Word' s shape row) = bare.Operand (text_of b s)
element_of b (Redirection' at number target) = bare.Redirects (redirect_of b (tree.redirect at number target))

-- the words of `for`
unfoldable pub for_words_of : List ℕ → Held-Kind-For-1 → Option (List bare.Text)
for_words_of b Kind-For-1-None' = None
for_words_of b (Kind-For-1-Some' shape row) = Some (map (word_of b) (items-the_row-Word _ row))

unfoldable mutual
  pub script_of : List ℕ → Script → bare.Items
  script_of b (Script' shape row) = items_of b row

  pub items_of : {m : _} → List ℕ → Row_of-Item m → bare.Items
  items_of b end_of-Item = bare.no_items
  items_of b (more_of-Item (Item' (AndOr' first shape links) background) rest) = bare.more_items (pipeline_of b first) (links_of b links) background (items_of b rest)

  pub links_of : {m : _} → List ℕ → Row_of-AndOr-rest-2 m → bare.Links
  links_of b end_of-AndOr-rest-2 = bare.no_links
  links_of b (more_of-AndOr-rest-2 link x rest) = bare.more_links link (pipeline_of b x) (links_of b rest)

  pub pipeline_of : List ℕ → Pipe → bare.Pipeline
  pipeline_of b (Pipe' negated shape row) = bare.pipeline negated (commands_of b row)

  pub commands_of : {m : _} → List ℕ → Row_of-Command m → bare.Commands
  commands_of b end_of-Command = bare.no_commands
  commands_of b (more_of-Command x rest) = bare.more_commands (command_of b x) (commands_of b rest)

  pub command_of : List ℕ → Command → bare.Command
  command_of b (Command' number at kind shape row) = bare.command (kind_of b kind) (map (redirect_of b) (items-the_row-Redirect _ row))

  pub kind_of : List ℕ → Kind → bare.Kind
  kind_of b (Simple' shape row) = bare.Simple (map (element_of b) (items-the_row-Element _ row))
  kind_of b (Group list) = bare.Group (script_of b list)
  kind_of b (Subshell list) = bare.Subshell (script_of b list)
  kind_of b (Cond' shape branches otherwise) = bare.Conditional (branches_of b branches) (otherwise_of b otherwise)
  kind_of b (Loop kind condition body) = bare.Loop kind (script_of b condition) (script_of b body)
  kind_of b (For' name words body) = bare.For (text_of b name) (for_words_of b words) (script_of b body)
  kind_of b (Branches' s shape word shape' clauses) = bare.Case (text_of b s) (clauses_of b clauses)
  kind_of b (Define' name shape row) = bare.Define (text_of b name) (body_of b row)

  -- the command in a box
  pub body_of : {m : _} → List ℕ → Row_of-Command m → bare.Command
  body_of b end_of-Command = bare.command (bare.Group bare.no_items) []
  body_of b (more_of-Command x rest) = command_of b x

  pub branches_of : {m : _} → List ℕ → Row_of-Branch m → bare.Branches
  branches_of b end_of-Branch = bare.no_branches
  branches_of b (more_of-Branch (Branch' condition body) rest) = bare.more_branches (script_of b condition) (script_of b body) (branches_of b rest)

  pub otherwise_of : List ℕ → Held-Kind-Cond-1 → bare.Otherwise
  otherwise_of b Kind-Cond-1-None' = bare.no_else
  otherwise_of b (Kind-Cond-1-Some' list) = bare.else_of (script_of b list)

  pub clauses_of : {m : _} → List ℕ → Row_of-Clause m → bare.Clauses
  clauses_of b end_of-Clause = bare.no_clauses
  clauses_of b (more_of-Clause (Clause' shape patterns body end) rest) =
      bare.more_clauses (map (word_of b) (items-the_row-Word _ patterns)) (script_of b body) end (clauses_of b rest)
