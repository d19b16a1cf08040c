-- Clauses of private functions: single quotes in bodies whose lines are joined.
-- POSIX.1-2024, XCU 2.2.1 (line continuation), 2.7.4 (here-document).
use Rattle.std.specs.Prelude.{◌≡◌, ◌<◌, ℕ, Bool, true, false, not, List, length, Option, Some, None}
use Rattle.std.specs.List.{list_all}
use Rattle.sh_tree.specs.standard.Tree.{text_of}
use Rattle.sh_tree.specs.declared.tree.Part.{Part}
use Rattle.sh_tree.specs.declared.tree.Span.{Span}
use Rattle.sh_tree.specs.standard.language.HereDocuments.{is_split_text}
use Rattle.sh_tree.specs.standard.language.Parts.{keeps_lines}

abbrev pub all_kept : List ℕ → List Span → Bool
all_kept b ss = list_all (λ s. not (is_split_text (text_of b s))) ss

-- no line continuation is in the spans, or one of them holds one, and a place is reported
abbrev pub SplitsIn : List ℕ → List Span → Option ℕ → Type 0
SplitsIn b ss None = all_kept b ss ≡ true
SplitsIn b ss (Some at) = (all_kept b ss ≡ false) × (at < length b)

-- the lines of the parts are kept, or a place is reported
abbrev pub Splits : List ℕ → Bool → List Part → Option ℕ → Type 0
Splits b joins ps None = keeps_lines b joins ps ≡ true
Splits b joins ps (Some at) = (keeps_lines b joins ps ≡ false) × (at < length b)
