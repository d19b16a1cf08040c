-- Clauses of private functions: operands by which a utility could set IFS, by their words and their
-- static texts.
-- POSIX.1-2024, XCU 2.15 (export, readonly), 3 (getopts, read).
use Rattle.std.specs.Prelude.{ℕ, ◌+◌, Bool, true, false, not, ◌&&◌, ◌||◌, if◌then◌else◌, List, [], ◌∷◌, take, drop, Option, Some, None, is_some}
use Rattle.std.specs.List.{list_any, list_all}
use Rattle.sh_tree.specs.declared.known.KnownName.TheVariants as known
use Rattle.sh_tree.specs.declared.tree.Part.{Part}
use Rattle.sh_tree.specs.declared.tree.Part.TheVariants as part
use Rattle.sh_tree.specs.declared.tree.Word.{Word}
use Rattle.sh_tree.specs.standard.Tree.{text_of}
use Rattle.sh_tree.specs.standard.language.Bytes.{name_length}
use Rattle.sh_tree.specs.standard.language.Commands.{is_assignment}
use Rattle.sh_tree.specs.standard.language.Parts.{is_quotation}
use Rattle.sh_tree.specs.Lists.{parts_from}
use Rattle.sh_tree.specs.standard.program.Syntax.{Text}
use Rattle.sh_tree.specs.standard.program.Words.{before_word}
use Rattle.sh_runs.specs.Profile.{Static}
use Rattle.sh_runs.specs.Quoting.{is_at, is_ifs, word_mentions}
use Rattle.sh_runs.specs.declared.kind.Kind.{Kind}
use Rattle.sh_runs.specs.declared.kind.Kind.TheVariants as kind
use Rattle.sh_runs.specs.ReadOptions.{read_operands}
use Rattle.sh_quote.specs.Steady.{steady_value, steady_text}

-- `export` and `readonly`

unfoldable pub front_steady : List ℕ → Text → List Part → Static → Bool
front_steady b u ps t =
    if is_assignment u then not (is_ifs (take (name_length u) u)) || steady_value (before_word (drop (name_length u + 1) u) (parts_from b ps))
    else steady_text t

unfoldable pub parts_declared : List ℕ → List Part → Static → Bool
parts_declared b (part.Plain s ∷ ps) t = front_steady b (text_of b s) ps t
parts_declared b _ t = steady_text t

unfoldable pub all_declared : List ℕ → List Word → List Static → Bool
all_declared b [] ts = true
all_declared b (w ∷ ws) [] = true
all_declared b (w ∷ ws) (t ∷ ts) = parts_declared b w.parts t && all_declared b ws ts

-- `getopts`

unfoldable pub names_other : Static → Bool
names_other None = false
names_other (Some t) = not (is_ifs t)

unfoldable pub is_one_field : List ℕ → Word → Static → Bool
is_one_field b w (Some t) = not (is_ifs t)
is_one_field b w None = list_all is_quotation w.parts && not (word_mentions is_at (parts_from b w.parts))

unfoldable pub first_options : List ℕ → Word → List Static → Bool
first_options b w [] = true
first_options b w (t ∷ ts) = is_one_field b w t && list_all names_other ts

unfoldable pub all_options : List ℕ → List Word → List Static → Bool
all_options b [] ts = true
all_options b (w ∷ ws) ts = first_options b w ts

-- `read`

unfoldable pub is_ifs_static : Static → Bool
is_ifs_static None = false
is_ifs_static (Some t) = is_ifs t

unfoldable pub names_ifs : Option (List Static) → Bool
names_ifs None = false
names_ifs (Some ts) = list_any is_ifs_static ts

abbrev pub reads_ifs : List Static → Bool
reads_ifs ts = names_ifs (read_operands false ts)

unfoldable pub all_read : List Static → Bool
all_read ts = list_all is_some ts && not (reads_ifs ts)

-- a utility of this kind
unfoldable pub operands_steady : Kind → List ℕ → List Word → List Static → Bool
operands_steady (kind.Special known.Export) b ws ts = all_declared b ws ts
operands_steady (kind.Special known.Readonly) b ws ts = all_declared b ws ts
operands_steady kind.Read b ws ts = all_read ts
operands_steady kind.Getopts b ws ts = all_options b ws ts
operands_steady _ b ws ts = true
