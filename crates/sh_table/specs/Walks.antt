-- Clauses of private functions: the commands in each piece of a tree, in the order of the walk.
-- POSIX.1-2024, XCU 2.9 (shell commands), 2.6.3 (command substitution), 2.7.4 (here-documents).
use Rattle.std.specs.Prelude.{ℕ, ◌+◌, nat_lt, min, Bool, true, false, not, ◌||◌, if◌then◌else◌, List, [], ◌∷◌, ◌++◌, Option, Some, None}
use Rattle.std.specs.List.{flat_map}
use Rattle.sh_tree.specs.declared.tree.AndOr.{AndOr}
use Rattle.sh_tree.specs.declared.tree.Binary.{Binary}
use Rattle.sh_tree.specs.declared.tree.Branch.{Branch, out-Branch}
use Rattle.sh_tree.specs.declared.tree.Clause.{Clause, out-Clause}
use Rattle.sh_tree.specs.declared.tree.Command.{Command, out-Command}
use Rattle.sh_tree.specs.declared.tree.Element.{Element}
use Rattle.sh_tree.specs.declared.tree.Expr.{Expr}
use Rattle.sh_tree.specs.declared.tree.Item.{Item, out-Item}
use Rattle.sh_tree.specs.declared.tree.Kind.{Kind}
use Rattle.sh_tree.specs.declared.tree.Link.{Link}
use Rattle.sh_tree.specs.declared.tree.ParameterOperator.{ParameterOperator}
use Rattle.sh_tree.specs.declared.tree.Part.{Part, Plain}
use Rattle.sh_tree.specs.declared.tree.Pipe.{Pipe}
use Rattle.sh_tree.specs.declared.tree.Redirect.{Redirect}
use Rattle.sh_tree.specs.declared.tree.Script.{Script}
use Rattle.sh_tree.specs.declared.tree.Target.{Target}
use Rattle.sh_tree.specs.declared.tree.Word.{Word}
use Rattle.sh_tree.specs.standard.Tree.{text_of}
use Rattle.sh_tree.specs.Lists.{element_from}
use Rattle.sh_tree.specs.standard.program.Syntax as p
use Rattle.sh_tree.specs.standard.program.Syntax.{Text}
use Rattle.sh_tree.specs.standard.program.Trees as trees
use Rattle.sh_table.specs.declared.site.Around.{Around}
use Rattle.sh_table.specs.declared.site.Form as declared
use Rattle.sh_table.specs.declared.site.Site as site
use Rattle.sh_runs.specs.Sites.{Form, Simple, Defines, Other, Site, site_of, form_of}
use Rattle.sh_runs.specs.Surroundings.{Surroundings, Located, items_located, list_located, pipeline_located, command_located, kind_located, elements_located, redirect_located, part_located, operator_located, expression_located}

abbrev pub around : Around → Surroundings
around x = record { loops = x.loops; function = x.in_function; beyond = x.beyond }

-- What the profile requires of a command, beside the texts of its words

-- a simple command, and whether its name is more than plain bytes; the name that a definition
-- defines; or another command
pub data Shape : Type 0 where
  Called : Bool → Shape
  Named : Text → Shape
  Compound : Shape

pub record Outline : Type 0 where
  pub number : ℕ
  pub at : ℕ
  pub surroundings : Surroundings
  pub shape : Shape

-- the word is plain bytes alone
unfoldable pub is_plain : p.Word → Bool
is_plain (p.more_parts (p.Plain t) p.no_parts) = true
is_plain _ = false

-- whether a command name is more than plain bytes
unfoldable pub is_quoted : p.Words → Bool
is_quoted p.no_words = false
is_quoted (p.more_words w ws) = not (is_plain w)

unfoldable pub shape_of : Form → Shape
shape_of (Simple ws) = Called (is_quoted ws)
shape_of (Defines t) = Named t
shape_of Other = Compound

unfoldable pub outline_of : Site → Outline
outline_of s = record { number = s.number; at = s.at; surroundings = s.surroundings; shape = shape_of s.form }

-- the commands that a walk has found
unfoldable pub seen_form : List ℕ → declared.Form → Shape
seen_form b (declared.TheVariants.Simple quoted) = Called quoted
seen_form b (declared.TheVariants.Defines name) = Named (text_of b name)
seen_form b declared.TheVariants.Other = Compound

unfoldable pub seen : List ℕ → site.Site → Outline
seen b s = record { number = s.number; at = s.at; surroundings = around s.around; shape = seen_form b s.form }

-- round the parts of a pipeline, and round an item
abbrev pub outer : Around
outer = record { loops = 0; in_function = false; beyond = false }

abbrev pub inside_loop : Around → Around
inside_loop x = record { loops = min (x.loops + 1) 255; in_function = x.in_function; beyond = x.beyond }

abbrev pub inside_function : Around
inside_function = record { loops = 0; in_function = true; beyond = false }

abbrev pub round_parts : Around → ℕ → Around
round_parts x n = if nat_lt 1 n then (record { loops = 0; in_function = false; beyond = nat_lt 0 x.loops || x.beyond }) else x

abbrev pub round_item : Around → Bool → Around
round_item x background = if background then outer else x

-- the commands in each piece

unfoldable pub of_script : List ℕ → Around → Script → List Located
of_script b x t = items_located (around x) (trees.script_of b t)

unfoldable pub of_and_or : List ℕ → Around → AndOr → List Located
of_and_or b x l = list_located (around x) (trees.and_or_of b l)

unfoldable pub of_item : List ℕ → Around → Item → List Located
of_item b x i = of_and_or b (round_item x (out-Item i).background) (out-Item i).list

unfoldable pub of_pipe : List ℕ → Around → Pipe → List Located
of_pipe b x q = pipeline_located (around x) (trees.pipeline_of b q)

abbrev pub of_link : List ℕ → Around → Link × Pipe → List Located
of_link b x l = of_pipe b x l.1

unfoldable pub of_command : List ℕ → Around → Command → List Located
of_command b x c = command_located (around x) (trees.command_of b c)

unfoldable pub of_kind : List ℕ → Around → Kind → List Located
of_kind b x k = kind_located (around x) (trees.kind_of b k)

unfoldable pub of_element : List ℕ → Element → List Located
of_element b e = elements_located (element_from b e p.no_elements)

unfoldable pub of_target : List ℕ → Target → List Located
of_target b t = redirect_located (trees.target_of b t)

abbrev pub of_redirect : List ℕ → Redirect → List Located
of_redirect b r = of_target b r.target

unfoldable pub of_part : List ℕ → Part → List Located
of_part b y = part_located (trees.part_of b y)

abbrev pub of_word : List ℕ → Word → List Located
of_word b w = flat_map (of_part b) w.parts

unfoldable pub of_operator : List ℕ → ParameterOperator → List Located
of_operator b o = operator_located (trees.operator_of b o)

unfoldable pub of_expression : List ℕ → Expr → List Located
of_expression b e = expression_located (trees.expression_of b e)

abbrev pub of_step : List ℕ → Binary × Expr → List Located
of_step b x = of_expression b x.1

unfoldable pub of_branch : List ℕ → Around → Branch → List Located
of_branch b x c = of_script b x (out-Branch c).condition ++ of_script b x (out-Branch c).body

unfoldable pub of_clause : List ℕ → Around → Clause → List Located
of_clause b x c = flat_map (of_word b) (out-Clause c).patterns ++ of_script b x (out-Clause c).body

abbrev pub of_option : {A : Type 0} → (A → List Located) → Option A → List Located
of_option f None = []
of_option f (Some x) = f x

-- the command itself
abbrev pub located : List ℕ → Around → Command → Located
located b x c = record { command = trees.command_of b c; surroundings = around x }

-- what is read off one command

-- the word is plain bytes alone
unfoldable pub is_lone_plain : List Part → Bool
is_lone_plain (Plain s ∷ []) = true
is_lone_plain _ = false

unfoldable pub form_in : List ℕ → Kind → Form
form_in b k = form_of (trees.kind_of b k)

unfoldable pub site_in : List ℕ → Around → Command → Site
site_in b x c = record { number = (out-Command c).number; at = (out-Command c).at; surroundings = around x; form = form_in b (out-Command c).kind }

-- the outlines of commands, with one more
abbrev pub with_outline : List Outline → Located → List Outline
with_outline os l = os ++ outline_of (site_of l) ∷ []
