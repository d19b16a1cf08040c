-- What a builder does after an operand of arithmetic.
-- POSIX.1-2024, XCU 2.6.4 (arithmetic expansion).
use Rattle.std.specs.Prelude.{◌≡◌, ◌<◌, ◌≤◌, ◌⊎◌, ℕ, ◌+◌, Bool, true, false, if◌then◌else◌, is_none, List, [], ◌∷◌, ◌++◌, length, Option, Some, None, Result, Ok, Err}
use Rattle.sh_tree.specs.declared.refusal.Refusal.{Refusal}
use Rattle.sh_tree.specs.declared.refusal.Refusal.TheVariants.{Syntax, LeftOut, Memory}
use Rattle.sh_tree.specs.declared.tree.Binary.{Binary}
use Rattle.sh_tree.specs.declared.tree.Expr.{Expr}
use Rattle.sh_tree.specs.declared.tree.Expr.TheVariants as expr
use Rattle.sh_tree.specs.declared.tree.Part.TheVariants as part
use Rattle.sh_tree.specs.declared.token.arithmetic.Figure.{Figure}
use Rattle.sh_tree.specs.declared.token.arithmetic.Figure.TheVariants as figure
use Rattle.sh_tree.specs.declared.token.arithmetic.Lexeme.{Lexeme}
use Rattle.sh_tree.specs.standard.language.Arithmetic.{binary_of, is_closed}
use Rattle.sh_tree.specs.standard.language.Trees.{span}
use Rattle.sh_words.specs.declared.frames.Holder.{Holder}
use Rattle.sh_words.specs.declared.frames.Opening.{Opening}
use Rattle.sh_words.specs.declared.frames.Opening.TheVariants as opening
use Rattle.sh_words.specs.declared.frames.Operation.{Operation}
use Rattle.sh_words.specs.declared.frames.Operation.TheVariants as operation
use Rattle.sh_words.specs.declared.frames.Frame.{Frame}
use Rattle.sh_words.specs.declared.frames.Frame.TheVariants as frame
use Rattle.sh_words.specs.declared.frames.Focus.TheVariants as focus
use Rattle.sh_words.specs.declared.builder.WordBuilder.{WordBuilder}
use Rattle.sh_words.specs.declared.builder.Next.{Next}
use Rattle.sh_words.specs.States.{given, had, operating}

-- a level that does not have such a token as an operator
unfoldable pub is_level_left : Figure → Operation → Bool
is_level_left f (operation.First level) = is_none (binary_of level f)
is_level_left f _ = false

unfoldable pub is_left : Figure → Frame → Bool
is_left f (frame.Operation o) = is_level_left f o
is_left f _ = false

-- the frames without such levels at their front
unfoldable pub levels_left : Figure → List Frame → List Frame
levels_left f [] = []
levels_left f (x ∷ fs) = if is_left f x then levels_left f fs else x ∷ fs

abbrev pub leaving : WordBuilder → Figure → WordBuilder
leaving w f = record w { frames = levels_left f w.frames }

-- the first operand of a level was read, before the token
abbrev pub first_by : WordBuilder → ℕ → Expr → Lexeme → Option Binary → WordBuilder
first_by w level e l None = had w w.depth e w.at
first_by w level e l (Some o) = operating w (operation.More level e [] o) w.depth (focus.Level (level + 1)) l.end

abbrev pub first_read : WordBuilder → ℕ → Expr → Lexeme → WordBuilder
first_read w level e l = first_by w level e l (binary_of level l.figure)

-- one more operand of a level was read, before the token: the operators with theirs are these
abbrev pub more_by : WordBuilder → ℕ → Expr → List (Binary × Expr) → Lexeme → Option Binary → WordBuilder
more_by w level first all l None = had w w.depth (expr.Chain first all) w.at
more_by w level first all l (Some o) = operating w (operation.More level first all o) w.depth (focus.Level (level + 1)) l.end

abbrev pub more_read : WordBuilder → ℕ → Expr → List (Binary × Expr) → Binary → Expr → Lexeme → WordBuilder
more_read w level first rest o e l = more_by w level first (rest ++ (o, e) ∷ []) l (binary_of level l.figure)

-- the token fits and the state is reached, or the token is reported, or memory ran out
abbrev pub Reaches : Bool → Refusal → WordBuilder → WordBuilder → Result (Unit {0}) Refusal → Type 0
Reaches fits told state new (Ok u) = (fits ≡ true) × (new ≡ state)
Reaches fits told state new (Err e) = (e ≡ Memory) ⊎ ((fits ≡ false) × (e ≡ told))

-- the token ends the arithmetic expansion
abbrev pub IsClose : List ℕ → Opening → Lexeme → Type 0
IsClose b o l = (o ≡ opening.Arith) × (l.figure ≡ figure.Close) × (is_closed b l.end ≡ true)

-- the arithmetic expansion at `start` ends here and is given to the holder around it, or the token
-- does not end it
abbrev pub ClosesArithmetic : List ℕ → WordBuilder → Holder → ℕ → ℕ → Opening → Expr → Lexeme → WordBuilder → Result (Option Next) Refusal → Type 0
ClosesArithmetic b old h depth start o e l new (Ok None) =
    IsClose b o l × (new ≡ given (record old { holder = h; depth = depth }) 0 (part.Arith (span start (l.end + 1)) e) (l.end + 1))
ClosesArithmetic b old h depth start o e l new (Ok (Some n)) = ⊥
ClosesArithmetic b old h depth start o e l new (Err Memory) = Unit {0}
ClosesArithmetic b old h depth start o e l new (Err (Syntax f at)) = (at ≤ length b) × (IsClose b o l → ⊥)
ClosesArithmetic b old h depth start o e l new (Err (LeftOut f at)) = (at < length b) × (IsClose b o l → ⊥)
ClosesArithmetic b old h depth start o e l new (Err _) = ⊥
