-- The static texts of a simple command in a program are those of the words of its tree.
-- POSIX.1-2024, XCU 2.2 (quoting), 2.9.1 (simple commands).
use Rattle.std.specs.Prelude.{◌≡◌, ℕ, List, map}
use Rattle.sh_tree.specs.declared.tree.Element.{Element}
use Rattle.sh_tree.specs.declared.tree.Kind.TheVariants.{Simple}
use Rattle.sh_tree.specs.standard.Words.{static_text, words_of}
use Rattle.sh_tree.specs.standard.program.Trees.{kind_of}
use Rattle.sh_runs.specs.Sites.{form_of, statics}

-- What the call table keeps of the command's words, in their order, is what `static_text` reads off
-- each.
abbrev pub StaticsAreTexts : Type 0
StaticsAreTexts = (b : List ℕ) (es : List Element) → statics (form_of (kind_of b (Simple es))) ≡ map (λ w. static_text b w.parts) (words_of es)
