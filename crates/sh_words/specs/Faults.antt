-- What is reported if a word cannot go on.
-- POSIX.1-2024, XCU 2.2 (quoting), 2.6 (word expansions), 2.6.3 (command substitution), 2.6.4
-- (arithmetic expansion).
use Rattle.std.specs.Prelude.{◌≡◌, ℕ, ◌-◌, ◌<◌, ◌≤◌, nat_le, Bool, true, false, ◌&&◌, ◌||◌, if◌then◌else◌, List, ◌∷◌, length, take, Option, is_some}
use Rattle.sh_tree.specs.declared.refusal.Fault.{Fault}
use Rattle.sh_tree.specs.declared.refusal.Fault.TheVariants as fault
use Rattle.sh_tree.specs.declared.refusal.Form.{Form}
use Rattle.sh_tree.specs.declared.refusal.Form.TheVariants as form
use Rattle.sh_tree.specs.declared.refusal.Refusal.{Refusal}
use Rattle.sh_tree.specs.declared.refusal.Refusal.TheVariants.{Syntax, LeftOut}
use Rattle.sh_tree.specs.declared.token.word.Sign.{Sign}
use Rattle.sh_tree.specs.declared.token.word.Sign.TheVariants as sign
use Rattle.sh_tree.specs.declared.token.arithmetic.Figure.{Figure}
use Rattle.sh_tree.specs.declared.token.arithmetic.Figure.TheVariants as figure
use Rattle.sh_tree.specs.declared.tree.CommandStyle.TheVariants.{Backquote}
use Rattle.sh_tree.specs.standard.language.Contexts.{in_word}
use Rattle.sh_tree.specs.standard.language.Substitutions.{closes}
use Rattle.sh_tree.specs.standard.language.Words.{token}
use Rattle.sh_words.specs.declared.frames.Holder.{Holder}
use Rattle.sh_words.specs.declared.frames.Holder.TheVariants as holder
use Rattle.sh_words.specs.declared.frames.Opening.{Opening}
use Rattle.sh_words.specs.declared.frames.Opening.TheVariants as opening
use Rattle.sh_words.specs.declared.frames.Frame.{Frame}
use Rattle.sh_words.specs.declared.frames.Frame.TheVariants as frame

-- the fault of what was opened and is not closed
abbrev pub open_fault : Opening → Fault
open_fault opening.Double = fault.OpenDouble
open_fault (opening.Use p a colon) = fault.OpenBraced
open_fault (opening.Remove p r) = fault.OpenBraced
open_fault opening.Arith = fault.OpenArith

-- the text ends at i: the innermost opening is reported
unfoldable pub left_open : List Frame → ℕ → Refusal
left_open (frame.Opened h depth start inside o ∷ fs) i = Syntax (open_fault o) start
left_open _ i = Syntax fault.UnexpectedEnd i

-- no part begins with the sign, which is from `start` to `end`
unfoldable pub no_part : List Frame → Sign → ℕ → ℕ → Refusal
no_part fs (sign.Fault f) start end = Syntax f end
no_part fs (sign.LeftOut f) start end = LeftOut f end
no_part fs sign.Open start end = left_open fs start
no_part fs _ start end = Syntax fault.BadArith start

-- where the arithmetic expansion began, or else i
abbrev pub arithmetic_start : Holder → ℕ → ℕ
arithmetic_start (holder.Operand x start) i = start
arithmetic_start (holder.Parts x prior ps) i = i

-- a token of arithmetic that begins at i has no place in the expression
unfoldable pub bad : Holder → Figure → ℕ → Refusal
bad h figure.End i = Syntax fault.OpenArith (arithmetic_start h i)
bad h (figure.LeftOut f) i = LeftOut f i
bad h figure.FinalBackslash i = Syntax fault.FinalBackslash i
bad h _ i = Syntax fault.BadArith i

-- the fault is of something that the end of the text leaves open
abbrev pub is_unclosed : Fault → Bool
is_unclosed fault.OpenSingle = true
is_unclosed fault.OpenDouble = true
is_unclosed fault.OpenBraced = true
is_unclosed fault.OpenArith = true
is_unclosed _ = false

-- the sign is of a braced expansion that the text does not end
abbrev pub is_unended : Sign → Bool
is_unended (sign.Fault fault.OpenBraced) = true
is_unended _ = false

abbrev pub is_braced : Form → Bool
is_braced form.Braced = true
is_braced _ = false

-- Something is open before the backquote at i, which ends the text, or is refused there.
unfoldable pub is_met : List ℕ → ℕ → Refusal → Bool
is_met b i (Syntax f at) = is_unclosed f || nat_le i at
is_met b i (LeftOut f at) = nat_le i at || (is_braced f && is_unended (token (take i b) (in_word at) 0 at).sign)
is_met b i _ = false

-- What is reported of a refusal: the backquote that closes the commands around the word, if
-- something is open before it.
unfoldable pub reported : Option Bool → List ℕ → Refusal → Refusal
reported inside b e =
    if is_some inside && closes Backquote b (length b - 1) && is_met b (length b - 1) e then LeftOut form.BackquoteInside (length b - 1) else e

abbrev pub IsReported : Option Bool → List ℕ → Refusal → Type 0
IsReported inside b e = e ≡ reported inside b e

-- a fault of syntax or a refused form, at its place in the text
abbrev pub IsFault : List ℕ → Refusal → Type 0
IsFault b (Syntax f at) = at ≤ length b
IsFault b (LeftOut f at) = at < length b
IsFault b _ = ⊥
