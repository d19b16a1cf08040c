-- The program of the lists that a tree's values hold.
-- POSIX.1-2024, XCU 2.6 (word expansions), 2.9 (shell commands), 2.10 (shell grammar).
use Rattle.std.specs.Prelude.{ℕ, List, [], ◌∷◌, Option, Some, None}
use Rattle.sh_tree.specs.declared.tree.Binary.{Binary}
use Rattle.sh_tree.specs.declared.tree.Branch.{Branch, out-Branch}
use Rattle.sh_tree.specs.declared.tree.Clause.{Clause, out-Clause}
use Rattle.sh_tree.specs.declared.tree.Command.{Command}
use Rattle.sh_tree.specs.declared.tree.Element.{Element, Assignment', Word', Redirection'}
use Rattle.sh_tree.specs.declared.tree.Expr.{Expr}
use Rattle.sh_tree.specs.declared.tree.Item.{Item, out-Item}
use Rattle.sh_tree.specs.declared.tree.Link.{Link}
use Rattle.sh_tree.specs.declared.tree.Part.{Part}
use Rattle.sh_tree.specs.declared.tree.Pipe.{Pipe}
use Rattle.sh_tree.specs.declared.tree.Redirect.{Redirect}
use Rattle.sh_tree.specs.declared.tree.Script.{Script}
use Rattle.sh_tree.specs.declared.tree.Word.{Word}
use Rattle.sh_tree.specs.standard.Tree.{text_of}
use Rattle.sh_tree.specs.standard.program.Syntax as p
use Rattle.sh_tree.specs.standard.program.Trees.{part_of, word_of, expression_of, script_of, and_or_of, pipeline_of, command_of, target_of}

unfoldable pub parts_from : List ℕ → List Part → p.Word
parts_from b [] = p.no_parts
parts_from b (x ∷ xs) = p.more_parts (part_of b x) (parts_from b xs)

unfoldable pub words_from : List ℕ → List Word → p.Words
words_from b [] = p.no_words
words_from b (w ∷ ws) = p.more_words (parts_from b w.parts) (words_from b ws)

unfoldable pub operands_from : List ℕ → List (Binary × Expr) → p.Operands
operands_from b [] = p.no_operands
operands_from b (x ∷ xs) = p.more_operands x.0 (expression_of b x.1) (operands_from b xs)

unfoldable pub items_from : List ℕ → List Item → p.Items
items_from b [] = p.no_items
items_from b (x ∷ xs) = p.more_items (and_or_of b (out-Item x).list) (out-Item x).background (items_from b xs)

unfoldable pub links_from : List ℕ → List (Link × Pipe) → p.Links
links_from b [] = p.no_links
links_from b (x ∷ xs) = p.more_links x.0 (pipeline_of b x.1) (links_from b xs)

unfoldable pub commands_from : List ℕ → List Command → p.Commands
commands_from b [] = p.no_commands
commands_from b (c ∷ cs) = p.more_commands (command_of b c) (commands_from b cs)

-- an element before others
unfoldable pub element_from : List ℕ → Element → p.Elements → p.Elements
element_from b (Assignment' name s shape row) rest = p.assignment (text_of b name) (word_of b row) rest
element_from b (Word' s shape row) rest = p.operand (word_of b row) rest
element_from b (Redirection' at number target) rest = p.redirection (target_of b target) rest

unfoldable pub elements_from : List ℕ → List Element → p.Elements
elements_from b [] = p.no_elements
elements_from b (e ∷ es) = element_from b e (elements_from b es)

unfoldable pub redirects_from : List ℕ → List Redirect → p.Redirects
redirects_from b [] = p.no_redirects
redirects_from b (r ∷ rs) = p.more_redirects (target_of b r.target) (redirects_from b rs)

unfoldable pub branches_from : List ℕ → List Branch → p.Branches
branches_from b [] = p.no_branches
branches_from b (x ∷ xs) = p.more_branches (script_of b (out-Branch x).condition) (script_of b (out-Branch x).body) (branches_from b xs)

unfoldable pub otherwise_from : List ℕ → Option Script → p.Otherwise
otherwise_from b None = p.no_else
otherwise_from b (Some t) = p.else_of (script_of b t)

unfoldable pub for_words_from : List ℕ → Option (List Word) → p.ForWords
for_words_from b None = p.every_parameter
for_words_from b (Some ws) = p.listed (words_from b ws)

unfoldable pub clauses_from : List ℕ → List Clause → p.Clauses
clauses_from b [] = p.no_clauses
clauses_from b (x ∷ xs) = p.more_clauses (words_from b (out-Clause x).patterns) (script_of b (out-Clause x).body) (out-Clause x).end (clauses_from b xs)
