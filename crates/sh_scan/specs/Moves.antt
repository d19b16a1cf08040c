-- Which tokens read bytes, and which refuse what is there.
-- POSIX.1-2024, XCU 2.2, 2.6 (words), 2.6.4 (arithmetic expansion).
use Rattle.std.specs.Prelude.{Bool, true, false}
use Rattle.sh_tree.specs.declared.token.word.Sign.{Sign}
use Rattle.sh_tree.specs.declared.token.word.Sign.TheVariants as sign
use Rattle.sh_tree.specs.declared.token.arithmetic.Figure.{Figure}
use Rattle.sh_tree.specs.declared.token.arithmetic.Figure.TheVariants as figure

-- the sign is a part of a word, or begins one
abbrev pub reads_bytes : Sign → Bool
reads_bytes sign.Stop = false
reads_bytes sign.Open = false
reads_bytes (sign.Fault f) = false
reads_bytes (sign.LeftOut f) = false
reads_bytes _ = true

-- no part of a word begins so
abbrev pub refuses : Sign → Bool
refuses (sign.Fault f) = true
refuses (sign.LeftOut f) = true
refuses _ = false

-- the token is one of an expression
abbrev pub reads_figure : Figure → Bool
reads_figure figure.End = false
reads_figure (figure.LeftOut f) = false
reads_figure figure.FinalBackslash = false
reads_figure figure.Bad = false
reads_figure _ = true
