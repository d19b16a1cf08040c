-- A token of arithmetic that has no place in the expression is reported where it is.
use Rattle.std.proofs.Common.{◌≢◌, ℕ, ◌<◌, ◌≤◌, List, length, arith}
use Rattle.sh_tree.specs.declared.token.arithmetic.Figure.{Figure}
use Rattle.sh_tree.specs.declared.token.arithmetic.Figure.TheVariants as figure
use Rattle.sh_tree.specs.declared.token.arithmetic.Lexeme.{Lexeme}
use Rattle.sh_words.specs.declared.frames.Holder.{Holder}
use Rattle.sh_words.specs.declared.frames.Holder.TheVariants as holder
use Rattle.sh_words.specs.Faults.{IsFault, bad, arithmetic_start}
use Rattle.sh_words.specs.Lexemes.{IsLexeme}
use Rattle.sh_words.specs.Sound.{Began}

-- a token begins in the text
pub lexeme_start_inside : (b : List ℕ) (i : ℕ) (l : Lexeme) → IsLexeme b i l → l.start ≤ length b
lexeme_start_inside b i l is =
    let forward : l.start ≤ l.end = is.2 in
    let within : l.end ≤ length b = is.3 in
    omega arith

expansion_start_inside : (b : List ℕ) (h : Holder) (i : ℕ) → i ≤ length b → Began b h → arithmetic_start h i ≤ length b
expansion_start_inside b (holder.Operand x start) i inside began = began
expansion_start_inside b (holder.Parts x prior ps) i inside began = inside

bad_at : (b : List ℕ) (h : Holder) (f : Figure) (i : ℕ) → i ≤ length b → (f ≢ figure.End → i < length b) → Began b h → IsFault b (bad h f i)
unfolding bad
bad_at b h figure.End i inside told began = expansion_start_inside b h i inside began
bad_at b h (figure.LeftOut f) i inside told began = told (λ e. cc)
bad_at b h figure.FinalBackslash i inside told began = inside
bad_at b h _ i inside told began = inside

pub bad_is_fault : (b : List ℕ) (i : ℕ) (l : Lexeme) (h : Holder) → IsLexeme b i l → Began b h → IsFault b (bad h l.figure l.start)
bad_is_fault b i l h is began = bad_at b h l.figure l.start (lexeme_start_inside b i l is) is.4 began
