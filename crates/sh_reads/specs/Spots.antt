-- Where something may be reported in a program, and that each such spot of what is read occurs
-- once, inside the text.
-- POSIX.1-2024, XCU 2.6 (word expansions), 2.9 (shell commands), 2.10 (shell grammar).
use Rattle.std.specs.Prelude.{◌≡◌, ℕ, nat_lt, true, List, [], ◌∷◌, ◌++◌, length}
use Rattle.std.specs.List.{Contains, list_all}
use Rattle.sh_tree.specs.declared.tree.Script.{Script}
use Rattle.sh_tree.specs.standard.language.Reading.{Reads}
use Rattle.sh_tree.specs.standard.program.Syntax as p
use Rattle.sh_tree.specs.standard.program.Trees.{script_of}

-- where something may be reported: at the start of a command, or in a word, of an expansion, a
-- tilde or a name in arithmetic
pub data Spot : Type 0 where
  OfCommand : (at : ℕ) → Spot
  OfWord : (at : ℕ) → Spot

unfoldable pub offset_of : Spot → ℕ
offset_of (OfCommand at) = at
offset_of (OfWord at) = at

-- no element is one of those after it
unfoldable pub EachOnce : {A : Type 0} → List A → Type 0
EachOnce [] = Unit {0}
EachOnce (x ∷ xs) = (Contains xs x → ⊥) × EachOnce xs

-- The spots of a program, in the order of the text

unfoldable mutual
  pub items_spots : p.Items → List Spot
  items_spots p.no_items = []
  items_spots (p.more_items list background rest) = list_spots list ++ items_spots rest

  pub list_spots : p.AndOr → List Spot
  list_spots (p.and_or first rest) = pipeline_spots first ++ links_spots rest

  pub links_spots : p.Links → List Spot
  links_spots p.no_links = []
  links_spots (p.more_links link q rest) = pipeline_spots q ++ links_spots rest

  pub pipeline_spots : p.Pipeline → List Spot
  pipeline_spots (p.pipeline negated cs) = commands_spots cs

  pub commands_spots : p.Commands → List Spot
  commands_spots p.no_commands = []
  commands_spots (p.more_commands c cs) = command_spots c ++ commands_spots cs

  pub command_spots : p.Command → List Spot
  command_spots (p.command n offset kind rs) = OfCommand offset ∷ (kind_spots kind ++ redirects_spots rs)

  pub kind_spots : p.Kind → List Spot
  kind_spots (p.Simple es) = elements_spots es
  kind_spots (p.Group list) = items_spots list
  kind_spots (p.Subshell list) = items_spots list
  kind_spots (p.Conditional branches otherwise) = branches_spots branches ++ otherwise_spots otherwise
  kind_spots (p.Loop kind condition body) = items_spots condition ++ items_spots body
  kind_spots (p.For name ws body) = for_words_spots ws ++ items_spots body
  kind_spots (p.Case w cs) = word_spots w ++ clauses_spots cs
  kind_spots (p.Define name body) = command_spots body

  pub elements_spots : p.Elements → List Spot
  elements_spots p.no_elements = []
  elements_spots (p.assignment name value es) = word_spots value ++ elements_spots es
  elements_spots (p.operand w es) = word_spots w ++ elements_spots es
  elements_spots (p.redirection r es) = redirect_spots r ++ elements_spots es

  pub redirect_spots : p.Redirect → List Spot
  redirect_spots (p.File w) = word_spots w
  redirect_spots (p.Here w) = word_spots w

  pub redirects_spots : p.Redirects → List Spot
  redirects_spots p.no_redirects = []
  redirects_spots (p.more_redirects r rs) = redirect_spots r ++ redirects_spots rs

  pub branches_spots : p.Branches → List Spot
  branches_spots p.no_branches = []
  branches_spots (p.more_branches condition body rest) = items_spots condition ++ items_spots body ++ branches_spots rest

  pub otherwise_spots : p.Otherwise → List Spot
  otherwise_spots p.no_else = []
  otherwise_spots (p.else_of list) = items_spots list

  pub for_words_spots : p.ForWords → List Spot
  for_words_spots p.every_parameter = []
  for_words_spots (p.listed ws) = words_spots ws

  pub words_spots : p.Words → List Spot
  words_spots p.no_words = []
  words_spots (p.more_words w ws) = word_spots w ++ words_spots ws

  pub clauses_spots : p.Clauses → List Spot
  clauses_spots p.no_clauses = []
  clauses_spots (p.more_clauses patterns body end rest) = words_spots patterns ++ items_spots body ++ clauses_spots rest

  pub word_spots : p.Word → List Spot
  word_spots p.no_parts = []
  word_spots (p.more_parts x w) = part_spots x ++ word_spots w

  pub part_spots : p.Part → List Spot
  part_spots (p.Double w) = word_spots w
  part_spots (p.Expansion offset parameter operator) = OfWord offset ∷ operator_spots operator
  part_spots (p.Arithmetic offset e) = OfWord offset ∷ expression_spots e
  part_spots (p.Substitution offset list) = OfWord offset ∷ items_spots list
  part_spots (p.Tilde offset login) = OfWord offset ∷ []
  part_spots _ = []

  pub operator_spots : p.Operator → List Spot
  operator_spots (p.Use action colon w) = word_spots w
  operator_spots (p.Remove removal w) = word_spots w
  operator_spots _ = []

  pub expression_spots : p.Expression → List Spot
  expression_spots (p.Constant text) = []
  expression_spots (p.Name offset name) = OfWord offset ∷ []
  expression_spots (p.Expanded x) = part_spots x
  expression_spots (p.Parenthesis e) = expression_spots e
  expression_spots (p.Signed operator e) = expression_spots e
  expression_spots (p.Chain e rest) = expression_spots e ++ operands_spots rest
  expression_spots (p.Choice e then_one else_one) = expression_spots e ++ expression_spots then_one ++ expression_spots else_one
  expression_spots (p.Assigned offset name operator e) = OfWord offset ∷ expression_spots e

  pub operands_spots : p.Operands → List Spot
  operands_spots p.no_operands = []
  operands_spots (p.more_operands operator e rest) = expression_spots e ++ operands_spots rest

-- no two commands of what is read start at one offset, and no two expansions, tildes or names of
-- arithmetic have one offset
abbrev pub ReadSpotsStandOnce : Type 0
ReadSpotsStandOnce = (b : List ℕ) (t : Script) → Reads b t → EachOnce (items_spots (script_of b t))

-- and each of them is before the end of the text
abbrev pub ReadSpotsStandInside : Type 0
ReadSpotsStandInside = (b : List ℕ) (t : Script) → Reads b t → list_all (λ s. nat_lt (offset_of s) (length b)) (items_spots (script_of b t)) ≡ true
