-- Clauses of private functions: commands that leave IFS to what separates no numbers, by the static
-- texts of their words.
-- POSIX.1-2024, XCU 2.6.5 (field splitting), 2.15 (export, readonly), 3 (getopts, read).
use Rattle.std.specs.Prelude.{ℕ, Bool, true, not, ◌&&◌, if◌then◌else◌, List, [], ◌∷◌, ◌++◌, Option, Some, None}
use Rattle.std.specs.List.{list_any, list_all}
use Rattle.std.specs.Str.{bytes_eq}
use Rattle.sh_tree.specs.declared.known.KnownName.TheVariants as known
use Rattle.sh_tree.specs.declared.tree.Clause.{Clause, out-Clause}
use Rattle.sh_tree.specs.declared.tree.Command.{Command}
use Rattle.sh_tree.specs.declared.tree.Element.{Element}
use Rattle.sh_tree.specs.declared.tree.Kind.{Kind}
use Rattle.sh_tree.specs.declared.tree.Target.{Target}
use Rattle.sh_tree.specs.declared.tree.Word.{Word}
use Rattle.sh_tree.specs.Lists.{element_from, parts_from}
use Rattle.sh_tree.specs.standard.program.Syntax as p
use Rattle.sh_tree.specs.standard.program.Syntax.{Text}
use Rattle.sh_tree.specs.standard.program.Trees as trees
use Rattle.sh_tree.specs.standard.program.Words.{assignment_in, words_in, operands_in, assignments_in}
use Rattle.sh_runs.specs.Calls.{Table, texts_with}
use Rattle.sh_runs.specs.standard.Kinds.{kind_of}
use Rattle.sh_runs.specs.Profile.{Static}
use Rattle.sh_runs.specs.Quoting.{is_ifs, is_at, are_quotations, word_assigns, word_mentions}
use Rattle.sh_runs.specs.Surroundings.{Located}
use Rattle.sh_runs.specs.declared.kind.Kind as meaning
use Rattle.sh_runs.specs.declared.kind.Kind.TheVariants as kind
use Rattle.sh_runs.specs.standard.runs.Steps.{opened}
use Rattle.sh_quote.specs.Steady.{steady_assignment, steady_text, redirect_words, kind_words}
use Rattle.sh_quote.specs.Operands.{names_other, all_read, operands_steady}

-- The words of a program's command, with the static texts that are kept of them

-- an operand of `export` or `readonly`: by its form, or by its text
unfoldable pub by_form : Option (Text × p.Word) → Static → Bool
by_form (Some x) t = steady_assignment x
by_form None t = steady_text t

unfoldable pub all_declared_by : List p.Word → List Static → Bool
all_declared_by [] ts = true
all_declared_by (w ∷ ws) [] = true
all_declared_by (w ∷ ws) (t ∷ ts) = by_form (assignment_in w) t && all_declared_by ws ts

-- the first operand of `getopts`
unfoldable pub is_one_field_by : p.Word → Static → Bool
is_one_field_by w (Some t) = not (is_ifs t)
is_one_field_by w None = are_quotations w && not (word_mentions is_at w)

unfoldable pub all_options_by : List p.Word → List Static → Bool
all_options_by [] ts = true
all_options_by (w ∷ ws) [] = true
all_options_by (w ∷ ws) (t ∷ ts) = is_one_field_by w t && list_all names_other ts

unfoldable pub operands_by : meaning.Kind → List p.Word → List Static → Bool
operands_by (kind.Special known.Export) ws ts = all_declared_by ws ts
operands_by (kind.Special known.Readonly) ws ts = all_declared_by ws ts
operands_by kind.Read ws ts = all_read ts
operands_by kind.Getopts ws ts = all_options_by ws ts
operands_by _ ws ts = true

unfoldable pub named_by : meaning.Kind → List p.Word → List Static → Bool
named_by k [] ts = true
named_by k (w ∷ ws) ts = operands_by k ws ts

unfoldable pub words_by : List p.Word → List Static → Bool
words_by ws [] = true
words_by ws (None ∷ ts) = true
words_by ws (Some t ∷ ts) = named_by (kind_of t) ws ts

unfoldable pub kind_by : p.Kind → List Static → Bool
kind_by (p.Simple es) ts = list_all steady_assignment (assignments_in es) && words_by (words_in (operands_in es)) ts
kind_by (p.For name ws body) ts = not (is_ifs name)
kind_by _ ts = true

unfoldable pub command_by : p.Command → List Static → Bool
command_by (p.command n at kind rs) ts = kind_by kind ts && not (list_any (word_assigns is_ifs) (redirect_words rs ++ kind_words kind))

-- The same in a tree

unfoldable pub element_steady : List ℕ → Element → Bool
element_steady b e = list_all steady_assignment (assignments_in (element_from b e p.no_elements))

unfoldable pub named_steady : meaning.Kind → List ℕ → List Word → List Static → Bool
named_steady k b [] ts = true
named_steady k b (w ∷ ws) ts = operands_steady k b ws ts

unfoldable pub words_steady : List ℕ → List Word → List Static → Bool
words_steady b ws [] = true
words_steady b ws (None ∷ ts) = true
words_steady b ws (Some t ∷ ts) = named_steady (kind_of t) b ws ts

unfoldable pub kind_steady : List ℕ → Kind → List Static → Bool
kind_steady b k ts = kind_by (trees.kind_of b k) ts

abbrev pub word_sets : List ℕ → Word → Bool
word_sets b w = word_assigns is_ifs (parts_from b w.parts)

unfoldable pub target_sets : List ℕ → Target → Bool
target_sets b t = word_assigns is_ifs (opened (trees.target_of b t))

unfoldable pub element_sets : List ℕ → Element → Bool
element_sets b e = list_any (word_assigns is_ifs) (kind_words (p.Simple (element_from b e p.no_elements)))

abbrev pub clause_sets : List ℕ → Clause → Bool
clause_sets b c = list_any (word_sets b) (out-Clause c).patterns

unfoldable pub kind_sets : List ℕ → Kind → Bool
kind_sets b k = list_any (word_assigns is_ifs) (kind_words (trees.kind_of b k))

unfoldable pub command_steady : List ℕ → Command → List Static → Bool
command_steady b c ts = command_by (trees.command_of b c) ts

-- what a walk keeps: the table, and whether each command so far leaves IFS so
pub record Kept : Type 0 where
  pub table : Table
  pub steady : Bool

-- the texts under a command's number
unfoldable pub texts_of : Table → p.Command → List Static
texts_of x (p.command n at kind rs) = texts_with n x.rows

abbrev pub with_command : Option Kept → Located → Option Kept
with_command None l = None
with_command (Some k) l = Some (record { table = k.table; steady = k.steady && command_by l.command (texts_of k.table l.command) })

-- of a text, if the table is that of it
unfoldable pub kept_of : Text → Table → Bool → Option Kept
kept_of b x steady = if bytes_eq x.script b then Some (record { table = x; steady = steady }) else None
