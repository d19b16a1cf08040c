-- The names in a script's text, each with its offset.
-- POSIX.1-2024, XCU 2.5.3 (shell variables), 2.6 (word expansions), 2.9 (shell commands), 2.15 and
-- 3 (utilities that set or unset by name).
use Rattle.std.specs.Prelude.{ℕ, nat_lt, ◌==◌, Bool, true, false, not, ◌&&◌, ◌||◌, if◌then◌else◌, List, [], ◌∷◌, ◌++◌, length, take, codes, Option, Some, None}
use Rattle.std.specs.List.{flat_map}
use Rattle.std.specs.Str.{bytes_eq}
use Rattle.sh_tree.specs.declared.tree.Span.{Span}
use Rattle.sh_tree.specs.declared.tree.Command.{Command, out-Command}
use Rattle.sh_tree.specs.declared.tree.Kind.{Kind, Simple', For', Branches', Define', items-the_row-Element, Held-Kind-For-1, Kind-For-1-None', Kind-For-1-Some', items-the_row-Word, items-the_row-Clause}
use Rattle.sh_tree.specs.declared.tree.Redirect.{Redirect}
use Rattle.sh_tree.specs.declared.tree.Word.{Word}
use Rattle.sh_tree.specs.declared.tree.Clause.{Clause, out-Clause}
use Rattle.sh_tree.specs.declared.tree.Element.{Element, Assignment', Word', Redirection'}
use Rattle.sh_tree.specs.declared.tree.Target.{Target, File', Here'}
use Rattle.sh_tree.specs.declared.tree.Part.{Part, Plain, Double', Param', Arith', Row_of-Part, end_of-Part, more_of-Part}
use Rattle.sh_tree.specs.declared.tree.ParameterOperator.{ParameterOperator, Use', Remove'}
use Rattle.sh_tree.specs.declared.tree.Subject.{Subject}
use Rattle.sh_tree.specs.declared.tree.Subject.TheVariants.{Name}
use Rattle.sh_tree.specs.declared.tree.Binary.{Binary}
use Rattle.sh_tree.specs.declared.tree.Expr.{Expr, Variable, Expansion, Parenthesis', Unary', Chain', Choice', Assign', Row_of-Expr, end_of-Expr, more_of-Expr, Row_of-Expr-Chain-1-2, end_of-Expr-Chain-1-2, more_of-Expr-Chain-1-2}
use Rattle.sh_tree.specs.standard.Tree.{text_of}
use Rattle.sh_tree.specs.standard.Words.{words_of, static_text}
use Rattle.sh_tree.specs.standard.language.Bytes.{is_first, is_name, name_length}
use Rattle.sh_tree.specs.standard.language.Commands.{is_assignment}
use Rattle.sh_tree.specs.standard.program.Syntax.{Text}
use Rattle.sh_runs.specs.ReadOptions.{option_takes, go_on}
use Rattle.sh_runs.specs.standard.runs.Operands.{is_dashed, ends_options}

-- a name, and its offset
pub record Sight : Type 0 where
  pub at : ℕ
  pub name : Text

abbrev pub sight : List ℕ → Span → Sight
sight b s = record { at = s.start; name = text_of b s }

-- Words: the variables of expansions, and the names in arithmetic. What a substitution runs are
-- commands of their own.

unfoldable pub subject_sights : List ℕ → Subject → List Sight
subject_sights b (Name s) = sight b s ∷ []
subject_sights b _ = []

unfoldable mutual
  pub in_row : {m : _} → List ℕ → Row_of-Part m → List Sight
  in_row b end_of-Part = []
  in_row b (more_of-Part x rest) = in_part b x ++ in_row b rest

  pub in_part : List ℕ → Part → List Sight
  in_part b (Double' span shape parts) = in_row b parts
  in_part b (Param' span subject operator) = subject_sights b subject ++ in_operator b operator
  in_part b (Arith' span shape expression) = in_box b expression
  in_part b _ = []

  pub in_operator : List ℕ → ParameterOperator → List Sight
  in_operator b (Use' action colon span shape parts) = in_row b parts
  in_operator b (Remove' removal span shape parts) = in_row b parts
  in_operator b _ = []

  pub in_box : {m : _} → List ℕ → Row_of-Expr m → List Sight
  in_box b end_of-Expr = []
  in_box b (more_of-Expr x rest) = in_expression b x ++ in_box b rest

  pub in_chain : {m : _} → List ℕ → Row_of-Expr-Chain-1-2 m → List Sight
  in_chain b end_of-Expr-Chain-1-2 = []
  in_chain b (more_of-Expr-Chain-1-2 operator x rest) = in_expression b x ++ in_chain b rest

  pub in_expression : List ℕ → Expr → List Sight
  in_expression b (Variable s) = sight b s ∷ []
  in_expression b (Expansion x) = in_part b x
  in_expression b (Parenthesis' shape x) = in_box b x
  in_expression b (Unary' operator shape x) = in_box b x
  in_expression b (Chain' shape first shape' rest) = in_box b first ++ in_chain b rest
  in_expression b (Choice' s condition s' then_one s'' else_one) = in_box b condition ++ in_box b then_one ++ in_box b else_one
  in_expression b (Assign' name operator shape x) = sight b name ∷ in_box b x
  in_expression b _ = []

abbrev pub in_step : List ℕ → Binary × Expr → List Sight
in_step b x = in_expression b x.1

abbrev pub in_word : List ℕ → Word → List Sight
in_word b w = flat_map (in_part b) w.parts

-- Operands that are names, by the command's own name

unfoldable pub placed : ℕ → Option Text → List Sight
placed at None = []
placed at (Some t) = record { at = at; name = t } ∷ []

-- a static word, and the offset at which it starts
abbrev pub static_sight : List ℕ → Word → List Sight
static_sight b w = placed w.span.start (static_text b w.parts)

abbrev pub static_sights : List ℕ → List Word → List Sight
static_sights b ws = flat_map (static_sight b) ws

abbrev pub if_name : Sight → List Sight
if_name x = if is_name x.name then x ∷ [] else []

abbrev pub that_are_names : List Sight → List Sight
that_are_names xs = flat_map if_name xs

-- the operands of `unset` after its options, and after the `--` that ends these
unfoldable pub behind_options : List Sight → List Sight
behind_options [] = []
behind_options (x ∷ xs) = if ends_options x.name then xs else (if is_dashed x.name then behind_options xs else x ∷ xs)

abbrev pub unset_sights : List ℕ → List Word → List Sight
unset_sights b ws = that_are_names (behind_options (static_sights b ws))

-- the operands of `read` after its options, if each option is one of the standard's; whether an
-- option takes the next operand
unfoldable pub read_behind : Bool → List Sight → Option (List Sight)
read_behind takes [] = Some []
read_behind true (x ∷ xs) = read_behind false xs
read_behind false (x ∷ xs) =
    if ends_options x.name then Some xs
    else (if is_dashed x.name then go_on (option_takes x.name) (λ takes. read_behind takes xs) else Some (x ∷ xs))

unfoldable pub names_behind : Option (List Sight) → List Sight
names_behind None = []
names_behind (Some xs) = that_are_names xs

-- `read` names variables if every operand is static
abbrev pub read_sights : List ℕ → List Word → List Sight
read_sights b ws = if nat_lt (length (static_sights b ws)) (length ws) then [] else names_behind (read_behind false (static_sights b ws))

-- the second operand of `getopts`, after a static one that is no option
unfoldable pub second_sights : Text → Sight → List Sight
second_sights t x = if is_name x.name && not (is_first (λ c. c == 45) t) then x ∷ [] else []

unfoldable pub named_by : ℕ → Option Text → Option Text → List Sight
named_by at (Some t) (Some name) = second_sights t (record { at = at; name = name })
named_by at _ _ = []

unfoldable pub getopts_sights : List ℕ → List Word → List Sight
getopts_sights b (w ∷ v ∷ ws) = named_by v.span.start (static_text b w.parts) (static_text b v.parts)
getopts_sights b _ = []

-- the name in front of an unquoted `=`
unfoldable pub front_sights : ℕ → Text → List Sight
front_sights at t = if is_assignment t then record { at = at; name = take (name_length t) t } ∷ [] else []

-- an operand of `export` or `readonly` that is an assignment in form
unfoldable pub assigned_in : List ℕ → Word → List Part → List Sight
assigned_in b w (Plain s ∷ ps) = front_sights w.span.start (text_of b s)
assigned_in b w _ = []

abbrev pub assigned_sight : List ℕ → Word → List Sight
assigned_sight b w = assigned_in b w w.parts

abbrev pub assigned_sights : List ℕ → List Word → List Sight
assigned_sights b ws = flat_map (assigned_sight b) ws

unfoldable pub named_sights : List ℕ → Text → List Word → List Sight
named_sights b t ws =
    if bytes_eq (codes "unset") t then unset_sights b ws
    else (if bytes_eq (codes "read") t then read_sights b ws
    else (if bytes_eq (codes "getopts") t then getopts_sights b ws
    else (if bytes_eq (codes "export") t || bytes_eq (codes "readonly") t then assigned_sights b ws else [])))

unfoldable pub by_name : List ℕ → Option Text → List Word → List Sight
by_name b None ws = []
by_name b (Some t) ws = named_sights b t ws

unfoldable pub operand_sights : List ℕ → List Word → List Sight
operand_sights b [] = []
operand_sights b (w ∷ ws) = by_name b (static_text b w.parts) ws

-- Commands

unfoldable pub in_target : List ℕ → Target → List Sight
in_target b (File' direction span shape parts) = in_row b parts
in_target b (Here' strip span shape delimiter span' shape' body end) = in_row b body

abbrev pub in_redirect : List ℕ → Redirect → List Sight
in_redirect b r = in_target b r.target

unfoldable pub in_element : List ℕ → Element → List Sight
in_element b (Assignment' name span shape parts) = sight b name ∷ in_row b parts
in_element b (Word' span shape parts) = in_row b parts
in_element b (Redirection' at number target) = in_target b target

abbrev pub in_simple : List ℕ → List Element → List Sight
in_simple b es = flat_map (in_element b) es ++ operand_sights b (words_of es)

abbrev pub in_clause : List ℕ → Clause → List Sight
in_clause b x = flat_map (in_word b) (out-Clause x).patterns

unfoldable pub in_list : List ℕ → Held-Kind-For-1 → List Sight
in_list b Kind-For-1-None' = []
in_list b (Kind-For-1-Some' shape words) = flat_map (in_word b) (items-the_row-Word _ words)

unfoldable pub in_kind : List ℕ → Kind → List Sight
in_kind b (Simple' shape elements) = in_simple b (items-the_row-Element _ elements)
in_kind b (For' name words body) = sight b name ∷ in_list b words
in_kind b (Branches' span shape parts shape' clauses) = in_row b parts ++ flat_map (in_clause b) (items-the_row-Clause _ clauses)
in_kind b (Define' name shape body) = sight b name ∷ []
in_kind b _ = []

-- in a command itself, without those of the commands in it
abbrev pub in_command : List ℕ → Command → List Sight
in_command b c = in_kind b (out-Command c).kind ++ flat_map (in_redirect b) (out-Command c).redirects
