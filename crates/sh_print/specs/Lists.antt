-- The bare tree of the lists that a tree's values hold.
-- POSIX.1-2024, XCU 2.9 (shell commands).
use Rattle.std.specs.Prelude.{ℕ, List, [], ◌∷◌, ◌+◌, ◌++◌, map, codes, Option, None, Some}
use Rattle.sh_tree.specs.declared.tree.AndOr.{out-AndOr}
use Rattle.sh_tree.specs.declared.tree.Branch.{Branch, out-Branch}
use Rattle.sh_tree.specs.declared.tree.Clause.{Clause, out-Clause}
use Rattle.sh_tree.specs.declared.tree.Command.{Command}
use Rattle.sh_tree.specs.declared.tree.Item.{Item, out-Item}
use Rattle.sh_tree.specs.declared.tree.Link.{Link}
use Rattle.sh_tree.specs.declared.tree.Pipe.{Pipe}
use Rattle.sh_tree.specs.declared.tree.Word.{Word}
use Rattle.sh_print.specs.Bare as bare
use Rattle.sh_print.specs.Layout.{tabs, separated, block, clause_end_text, pipeline_pending, items_text, pipeline_text, links_text}
use Rattle.sh_print.specs.Trees.{word_of, script_of, pipeline_of, command_of}

unfoldable pub links_from : List ℕ → List (Link × Pipe) → bare.Links
links_from b [] = bare.no_links
links_from b (x ∷ xs) = bare.more_links x.0 (pipeline_of b x.1) (links_from b xs)

unfoldable pub items_from : List ℕ → List Item → bare.Items
items_from b [] = bare.no_items
items_from b (x ∷ xs) =
    bare.more_items (pipeline_of b (out-AndOr (out-Item x).list).first) (links_from b (out-AndOr (out-Item x).list).rest) (out-Item x).background (items_from b xs)

unfoldable pub commands_from : List ℕ → List Command → bare.Commands
commands_from b [] = bare.no_commands
commands_from b (x ∷ xs) = bare.more_commands (command_of b x) (commands_from b xs)

unfoldable pub branches_from : List ℕ → List Branch → bare.Branches
branches_from b [] = bare.no_branches
branches_from b (x ∷ xs) = bare.more_branches (script_of b (out-Branch x).condition) (script_of b (out-Branch x).body) (branches_from b xs)

unfoldable pub clauses_from : List ℕ → List Clause → bare.Clauses
clauses_from b [] = bare.no_clauses
clauses_from b (x ∷ xs) = bare.more_clauses (map (word_of b) (out-Clause x).patterns) (script_of b (out-Clause x).body) (out-Clause x).end (clauses_from b xs)

abbrev pub words_from : List ℕ → Option (List Word) → Option (List bare.Text)
words_from b None = None
words_from b (Some words) = Some (map (word_of b) words)

-- the text of an item
abbrev pub item_text : (depth : ℕ) → List ℕ → Item → bare.Text
item_text depth b x =
    tabs depth ++ (pipeline_text depth (pipeline_of b (out-AndOr (out-Item x).list).first)
    ++ links_text depth (pipeline_pending (pipeline_of b (out-AndOr (out-Item x).list).first)) (links_from b (out-AndOr (out-Item x).list).rest) (out-Item x).background)

-- the text of a branch of `if`, with its opening word
abbrev pub branch_text : (depth : ℕ) → (opening : bare.Text) → List ℕ → Branch → bare.Text
branch_text depth opening b x =
    block depth opening (items_text (depth + 1) (script_of b (out-Branch x).condition)) ++ block depth (codes "then") (items_text (depth + 1) (script_of b (out-Branch x).body))

-- the text of a clause of `case`
abbrev pub clause_text : (depth : ℕ) → List ℕ → Clause → bare.Text
clause_text depth b x =
    tabs (depth + 1) ++ ((40 ∷ separated (codes " | ") (map (word_of b) (out-Clause x).patterns) ++ (41 ∷ 10 ∷ []))
    ++ (items_text (depth + 2) (script_of b (out-Clause x).body) ++ (tabs (depth + 2) ++ (clause_end_text (out-Clause x).end ++ 10 ∷ []))))
