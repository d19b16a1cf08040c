-- The bodies of here-documents put where their operators are, in their order. Words are whole
-- already, and have their own.
-- POSIX.1-2024, XCU 2.7.4 (here-document).
use Rattle.std.specs.Prelude.{List, [], ◌∷◌, Option, Some, None}
use Rattle.sh_bodies.specs.declared.Document.{Document}
use Rattle.sh_tree.specs.declared.tree.AndOr.{AndOr, AndOr', Row_of-AndOr-rest-2, end_of-AndOr-rest-2, more_of-AndOr-rest-2}
use Rattle.sh_tree.specs.declared.tree.Branch.{Branch, Branch'}
use Rattle.sh_tree.specs.declared.tree.Clause.{Clause, Clause'}
use Rattle.sh_tree.specs.declared.tree.Command.{Command, Command', items-the_row-Redirect}
use Rattle.sh_tree.specs.declared.tree.Element.{Element, Redirection'}
use Rattle.sh_tree.specs.declared.tree.Element.TheVariants as element
use Rattle.sh_tree.specs.declared.tree.Item.{Item, Item'}
use Rattle.sh_tree.specs.declared.tree.Kind.{Kind, Simple', Group, Subshell, Cond', Loop, For', Branches', Define', items-the_row-Element, Row_of-Branch, end_of-Branch, more_of-Branch, items-the_row-Word, Row_of-Clause, end_of-Clause, more_of-Clause, Held-Kind-Cond-1, Kind-Cond-1-None', Kind-Cond-1-Some'}
use Rattle.sh_tree.specs.declared.tree.Kind.TheVariants as kind
use Rattle.sh_tree.specs.declared.tree.Link.{Link}
use Rattle.sh_tree.specs.declared.tree.Part.{items-the_row-Part}
use Rattle.sh_tree.specs.declared.tree.Pipe.{Pipe, Pipe', Row_of-Command, end_of-Command, more_of-Command}
use Rattle.sh_tree.specs.declared.tree.Redirect.{Redirect}
use Rattle.sh_tree.specs.declared.tree.Script.{Script, Script', Row_of-Item, end_of-Item, more_of-Item}
use Rattle.sh_tree.specs.declared.tree.Target.{Target, Here'}
use Rattle.sh_tree.specs.declared.tree.Target.TheVariants.{Here}
use Rattle.sh_tree.specs.standard.language.States as states
use Rattle.sh_tree.specs.standard.language.Trees as tree

-- a body that was read
abbrev pub document_of : Document → states.Document
document_of d = record { text = d.text; end = d.end }

-- a piece of a tree, and the bodies that are left
abbrev pub Filled : Type 0 → Type 0
Filled A = A × List Document

-- what comes of a list, each from the bodies that the one before it left
unfoldable pub thread : {A : Type 0} → (List Document → A → Filled A) → List Document → List A → Filled (List A)
thread f ds [] = ([], ds)
thread f ds (x ∷ xs) = ((f ds x).0 ∷ (thread f (f ds x).1 xs).0, (thread f (f ds x).1 xs).1)

-- a here-document gets the next body
unfoldable pub fill_target : List Document → Target → Filled Target
fill_target (d ∷ ds) (Here' strip s shape delimiter s' shape' body end) = (Here (tree.here_doc strip (record { span = s; parts = items-the_row-Part _ delimiter }) d.text d.end), ds)
fill_target ds x = (x, ds)

abbrev pub fill_redirect : List Document → Redirect → Filled Redirect
fill_redirect ds r = (tree.redirect r.at r.number (fill_target ds r.target).0, (fill_target ds r.target).1)

unfoldable pub fill_element : List Document → Element → Filled Element
fill_element ds (Redirection' at number target) = (element.Redirection (tree.redirect at number (fill_target ds target).0), (fill_target ds target).1)
fill_element ds x = (x, ds)

unfoldable mutual
  pub fill_script : List Document → Script → Filled Script
  fill_script ds (Script' shape row) = (tree.script (fill_items ds row).0, (fill_items ds row).1)

  pub fill_items : {m : _} → List Document → Row_of-Item m → Filled (List Item)
  fill_items ds end_of-Item = ([], ds)
  fill_items ds (more_of-Item x rest) = ((fill_item ds x).0 ∷ (fill_items (fill_item ds x).1 rest).0, (fill_items (fill_item ds x).1 rest).1)

  pub fill_item : List Document → Item → Filled Item
  fill_item ds (Item' list background) = (tree.item (fill_and_or ds list).0 background, (fill_and_or ds list).1)

  pub fill_and_or : List Document → AndOr → Filled AndOr
  fill_and_or ds (AndOr' first shape row) = (tree.and_or (fill_pipe ds first).0 (fill_links (fill_pipe ds first).1 row).0, (fill_links (fill_pipe ds first).1 row).1)

  pub fill_links : {m : _} → List Document → Row_of-AndOr-rest-2 m → Filled (List (Link × Pipe))
  fill_links ds end_of-AndOr-rest-2 = ([], ds)
  fill_links ds (more_of-AndOr-rest-2 link x rest) = ((link, (fill_pipe ds x).0) ∷ (fill_links (fill_pipe ds x).1 rest).0, (fill_links (fill_pipe ds x).1 rest).1)

  pub fill_pipe : List Document → Pipe → Filled Pipe
  fill_pipe ds (Pipe' negated shape row) = (tree.pipe negated (fill_commands ds row).0, (fill_commands ds row).1)

  pub fill_commands : {m : _} → List Document → Row_of-Command m → Filled (List Command)
  fill_commands ds end_of-Command = ([], ds)
  fill_commands ds (more_of-Command x rest) = ((fill_command ds x).0 ∷ (fill_commands (fill_command ds x).1 rest).0, (fill_commands (fill_command ds x).1 rest).1)

  pub fill_command : List Document → Command → Filled Command
  fill_command ds (Command' number at kind shape row) = (
    tree.command number at (fill_kind ds kind).0 (thread fill_redirect (fill_kind ds kind).1 (items-the_row-Redirect _ row)).0,
    (thread fill_redirect (fill_kind ds kind).1 (items-the_row-Redirect _ row)).1,
  )

  pub fill_kind : List Document → Kind → Filled Kind
  fill_kind ds (Simple' shape row) = (kind.Simple (thread fill_element ds (items-the_row-Element _ row)).0, (thread fill_element ds (items-the_row-Element _ row)).1)
  fill_kind ds (Group list) = (kind.Group (fill_script ds list).0, (fill_script ds list).1)
  fill_kind ds (Subshell list) = (kind.Subshell (fill_script ds list).0, (fill_script ds list).1)
  fill_kind ds (Cond' shape branches otherwise) =
      (kind.Cond (fill_branches ds branches).0 (fill_held (fill_branches ds branches).1 otherwise).0, (fill_held (fill_branches ds branches).1 otherwise).1)
  fill_kind ds (Loop k condition body) =
      (kind.Loop k (fill_script ds condition).0 (fill_script (fill_script ds condition).1 body).0, (fill_script (fill_script ds condition).1 body).1)
  fill_kind ds (For' name words body) = (For' name words (fill_script ds body).0, (fill_script ds body).1)
  fill_kind ds (Branches' s shape word shape' clauses) = (kind.Branches (record { span = s; parts = items-the_row-Part _ word }) (fill_clauses ds clauses).0, (fill_clauses ds clauses).1)
  fill_kind ds (Define' name shape row) = (kind.Define name (fill_boxed ds row).0, (fill_boxed ds row).1)

  -- the command in a box
  pub fill_boxed : {m : _} → List Document → Row_of-Command m → Filled Command
  fill_boxed ds end_of-Command = (tree.command 0 0 (kind.Group (tree.script [])) [], ds)
  fill_boxed ds (more_of-Command x rest) = fill_command ds x

  pub fill_branches : {m : _} → List Document → Row_of-Branch m → Filled (List Branch)
  fill_branches ds end_of-Branch = ([], ds)
  fill_branches ds (more_of-Branch x rest) = ((fill_branch ds x).0 ∷ (fill_branches (fill_branch ds x).1 rest).0, (fill_branches (fill_branch ds x).1 rest).1)

  pub fill_branch : List Document → Branch → Filled Branch
  fill_branch ds (Branch' condition body) =
      (tree.branch (fill_script ds condition).0 (fill_script (fill_script ds condition).1 body).0, (fill_script (fill_script ds condition).1 body).1)

  pub fill_held : List Document → Held-Kind-Cond-1 → Filled (Option Script)
  fill_held ds Kind-Cond-1-None' = (None, ds)
  fill_held ds (Kind-Cond-1-Some' list) = (Some (fill_script ds list).0, (fill_script ds list).1)

  pub fill_clauses : {m : _} → List Document → Row_of-Clause m → Filled (List Clause)
  fill_clauses ds end_of-Clause = ([], ds)
  fill_clauses ds (more_of-Clause x rest) = ((fill_clause ds x).0 ∷ (fill_clauses (fill_clause ds x).1 rest).0, (fill_clauses (fill_clause ds x).1 rest).1)

  pub fill_clause : List Document → Clause → Filled Clause
  fill_clause ds (Clause' shape patterns body end) = (tree.clause (items-the_row-Word _ patterns) (fill_script ds body).0 end, (fill_script ds body).1)

abbrev pub fill_link : List Document → Link × Pipe → Filled (Link × Pipe)
fill_link ds x = ((x.0, (fill_pipe ds x.1).0), (fill_pipe ds x.1).1)

abbrev pub fill_otherwise : List Document → Option Script → Filled (Option Script)
fill_otherwise ds None = (None, ds)
fill_otherwise ds (Some t) = (Some (fill_script ds t).0, (fill_script ds t).1)

-- the script with the bodies of its own here-documents
unfoldable pub fill : List Document → Script → Script
fill [] t = t
fill (d ∷ ds) t = (fill_script (d ∷ ds) t).0
