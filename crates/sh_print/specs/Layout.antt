-- The canonical text: one text for each bare tree, in which an item, an opening word and a closing
-- word each begin a line.
-- POSIX.1-2024, XCU 2.7 (redirection), 2.9 (shell commands).
use Rattle.std.specs.Prelude.{ℕ, ◌+◌, Bool, true, false, List, [], ◌∷◌, ◌++◌, map, codes, replicate, Option, None, Some}
use Rattle.std.specs.List.{flat_map}
use Rattle.sh_tree.specs.declared.tree.ClauseEnd.{ClauseEnd}
use Rattle.sh_tree.specs.declared.tree.ClauseEnd.TheVariants as clause_end
use Rattle.sh_tree.specs.declared.tree.Direction.{Direction}
use Rattle.sh_tree.specs.declared.tree.Direction.TheVariants as direction
use Rattle.sh_tree.specs.declared.tree.Link.{Link}
use Rattle.sh_tree.specs.declared.tree.Link.TheVariants as link
use Rattle.sh_tree.specs.declared.tree.LoopKind.{LoopKind}
use Rattle.sh_tree.specs.declared.tree.LoopKind.TheVariants as loop
use Rattle.sh_tree.specs.declared.tree.Script.{Script}
use Rattle.sh_print.specs.Bare as bare
use Rattle.sh_print.specs.Bare.{Text, Document, Redirect, Element, Items, Links, Pipeline, Commands, Command, Kind, Branches, Otherwise, Clauses}
use Rattle.sh_print.specs.Trees.{script_of}

-- a tab for each level
abbrev pub tabs : ℕ → Text
tabs depth = replicate depth 9

-- texts one after the other, with a separator between two
abbrev pub separated : Text → List Text → Text
separated by [] = []
separated by (t ∷ ts) = t ++ flat_map (λ u. by ++ u) ts

-- Elements and redirections (XCU 2.7)

abbrev pub direction_text : Direction → Text
direction_text direction.Read = codes "<"
direction_text direction.Write = codes ">"
direction_text direction.Clobber = codes ">|"
direction_text direction.Append = codes ">>"
direction_text direction.Both = codes "<>"
direction_text direction.CopyIn = codes "<&"
direction_text direction.CopyOut = codes ">&"

abbrev pub here_text : (strip : Bool) → Text
here_text true = codes "<<-"
here_text false = codes "<<"

abbrev pub opens_text : bare.Opens → Text
opens_text (bare.File d) = direction_text d
opens_text (bare.Here strip document) = here_text strip

abbrev pub number_text : Option Text → Text
number_text None = []
number_text (Some t) = t

-- the IO number, the operator, one blank and the word
abbrev pub redirect_text : Redirect → Text
redirect_text r = number_text r.number ++ (opens_text r.opens ++ 32 ∷ r.word)

abbrev pub element_text : Element → Text
element_text (bare.Assigns name value) = name ++ 61 ∷ value
element_text (bare.Operand t) = t
element_text (bare.Redirects r) = redirect_text r

-- Here-documents (XCU 2.7.4)

abbrev pub documents_in : bare.Opens → List Document
documents_in (bare.File d) = []
documents_in (bare.Here strip document) = document ∷ []

abbrev pub redirect_documents : Redirect → List Document
redirect_documents r = documents_in r.opens

abbrev pub element_documents : Element → List Document
element_documents (bare.Redirects r) = redirect_documents r
element_documents _ = []

-- the here-documents that are pending after the last token of a command
unfoldable mutual
  pub pending : Command → List Document
  pending (bare.command kind redirects) = kind_pending kind ++ flat_map redirect_documents redirects

  pub kind_pending : Kind → List Document
  kind_pending (bare.Simple elements) = flat_map element_documents elements
  kind_pending (bare.Define name body) = pending body
  kind_pending _ = []

-- those that are pending after commands: those of the last one
unfoldable pub last_pending : List Document → Commands → List Document
last_pending documents bare.no_commands = documents
last_pending documents (bare.more_commands c rest) = last_pending (pending c) rest

unfoldable pub pipeline_pending : Pipeline → List Document
pipeline_pending (bare.pipeline negated parts) = last_pending [] parts

-- a body and its end line, which always has a newline
abbrev pub document_text : Document → Text
document_text d = d.body ++ (d.end ++ 10 ∷ [])

-- a newline, and the here-documents that were pending before it
abbrev pub line_end : List Document → Text
line_end documents = 10 ∷ flat_map document_text documents

-- what comes after `&&`, `||` or `|`: one blank; if a here-document is pending, a newline, the
-- bodies and the tabs of the line
abbrev pub join : (depth : ℕ) → List Document → Text
join depth [] = 32 ∷ []
join depth (d ∷ documents) = line_end (d ∷ documents) ++ tabs depth

-- Commands (XCU 2.9)

abbrev pub negation : (negated : Bool) → Text
negation true = codes "! "
negation false = []

abbrev pub background_text : (background : Bool) → Text
background_text true = codes " &"
background_text false = []

abbrev pub link_text : Link → Text
link_text link.AndThen = codes " &&"
link_text link.OrElse = codes " ||"

abbrev pub loop_text : LoopKind → Text
loop_text loop.While = codes "while"
loop_text loop.Until = codes "until"

abbrev pub clause_end_text : ClauseEnd → Text
clause_end_text clause_end.Break = codes ";;"
clause_end_text clause_end.FallThrough = codes ";&"

abbrev pub for_words_text : Option (List Text) → Text
for_words_text None = []
for_words_text (Some words) = codes " in" ++ flat_map (λ w. 32 ∷ w) words

-- an opening word, the text of its list, and the tabs before the word after it
abbrev pub block : (depth : ℕ) → (opening inside : Text) → Text
block depth opening inside = opening ++ 10 ∷ (inside ++ tabs depth)

unfoldable mutual
  -- the items of a list, each from a line's start to its newline
  pub items_text : (depth : ℕ) → Items → Text
  items_text depth bare.no_items = []
  items_text depth (bare.more_items first links background rest) =
      tabs depth ++ (pipeline_text depth first ++ (links_text depth (pipeline_pending first) links background ++ items_text depth rest))

  -- the further pipelines of an item and its end, while these here-documents are pending
  pub links_text : (depth : ℕ) → List Document → Links → (background : Bool) → Text
  links_text depth documents bare.no_links background = background_text background ++ line_end documents
  links_text depth documents (bare.more_links l p rest) background =
      link_text l ++ (join depth documents ++ (pipeline_text depth p ++ links_text depth (pipeline_pending p) rest background))

  pub pipeline_text : (depth : ℕ) → Pipeline → Text
  pipeline_text depth (bare.pipeline negated parts) = negation negated ++ commands_text depth parts

  pub commands_text : (depth : ℕ) → Commands → Text
  commands_text depth bare.no_commands = []
  commands_text depth (bare.more_commands c rest) = command_text depth c ++ piped_text depth (pending c) rest

  -- the further commands of a pipeline, while these here-documents are pending
  pub piped_text : (depth : ℕ) → List Document → Commands → Text
  piped_text depth documents bare.no_commands = []
  piped_text depth documents (bare.more_commands c rest) = codes " |" ++ (join depth documents ++ (command_text depth c ++ piped_text depth (pending c) rest))

  pub command_text : (depth : ℕ) → Command → Text
  command_text depth (bare.command kind redirects) = kind_text depth kind ++ flat_map (λ r. 32 ∷ redirect_text r) redirects

  pub kind_text : (depth : ℕ) → Kind → Text
  kind_text depth (bare.Simple elements) = separated (32 ∷ []) (map element_text elements)
  kind_text depth (bare.Group list) = block depth (codes "{") (items_text (depth + 1) list) ++ codes "}"
  kind_text depth (bare.Subshell list) = block depth (codes "(") (items_text (depth + 1) list) ++ codes ")"
  kind_text depth (bare.Conditional branches otherwise) = branches_text depth (codes "if") branches ++ (otherwise_text depth otherwise ++ codes "fi")
  kind_text depth (bare.Loop kind condition body) = block depth (loop_text kind) (items_text (depth + 1) condition) ++ (block depth (codes "do") (items_text (depth + 1) body) ++ codes "done")
  kind_text depth (bare.For name words body) = codes "for " ++ (name ++ (for_words_text words ++ (10 ∷ tabs depth ++ (block depth (codes "do") (items_text (depth + 1) body) ++ codes "done"))))
  kind_text depth (bare.Case word clauses) = codes "case " ++ (word ++ (codes " in" ++ 10 ∷ (clauses_text depth clauses ++ (tabs depth ++ codes "esac"))))
  kind_text depth (bare.Define name body) = name ++ (codes "()" ++ 10 ∷ (tabs depth ++ command_text depth body))

  -- the branches of `if`, the first of which has this opening word
  pub branches_text : (depth : ℕ) → (opening : Text) → Branches → Text
  branches_text depth opening bare.no_branches = []
  branches_text depth opening (bare.more_branches condition body rest) =
      block depth opening (items_text (depth + 1) condition) ++ (block depth (codes "then") (items_text (depth + 1) body) ++ branches_text depth (codes "elif") rest)

  pub otherwise_text : (depth : ℕ) → Otherwise → Text
  otherwise_text depth bare.no_else = []
  otherwise_text depth (bare.else_of list) = block depth (codes "else") (items_text (depth + 1) list)

  -- the clauses of `case`, each with its end mark on a line
  pub clauses_text : (depth : ℕ) → Clauses → Text
  clauses_text depth bare.no_clauses = []
  clauses_text depth (bare.more_clauses patterns body end rest) =
      tabs (depth + 1) ++ (40 ∷ separated (codes " | ") patterns ++ (41 ∷ 10 ∷ (items_text (depth + 2) body ++ (tabs (depth + 2) ++ (clause_end_text end ++ 10 ∷ clauses_text depth rest)))))

-- the canonical text of a tree of a text
abbrev pub canon : List ℕ → Script → Text
canon b t = items_text 0 (script_of b t)
