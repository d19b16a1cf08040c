-- The bytes of a script that a span of its tree covers.
-- POSIX.1-2024, XCU 2.10 (shell grammar).
use Rattle.std.specs.Prelude.{ℕ, List, slice_range}
use Rattle.sh_tree.specs.declared.tree.Span.{Span}

-- the bytes of a span
abbrev pub text_of : List ℕ → Span → List ℕ
text_of b s = slice_range b s.start s.end
