-- What is left to read of a word, once some of it is read.
-- POSIX.1-2024, XCU 2.2 (quoting), 2.6 (word expansions), 2.6.4 (arithmetic expansion).
use Rattle.std.specs.Prelude.{◌≡◌, ◌<◌, ◌⊎◌, ℕ, ◌+◌, Bool, true, false, List, [], ◌∷◌, ◌++◌, Some}
use Rattle.sh_tree.specs.declared.tree.Binary.{Binary}
use Rattle.sh_tree.specs.declared.tree.Expr.{Expr}
use Rattle.sh_tree.specs.declared.tree.Expr.TheVariants as expr
use Rattle.sh_tree.specs.declared.tree.Part.{Part}
use Rattle.sh_tree.specs.declared.tree.Part.TheVariants as part
use Rattle.sh_tree.specs.declared.token.word.Context.{Context}
use Rattle.sh_tree.specs.declared.token.word.Sign.{Sign}
use Rattle.sh_tree.specs.declared.token.arithmetic.Figure.TheVariants as figure
use Rattle.sh_tree.specs.standard.language.Arithmetic.{is_closed}
use Rattle.sh_tree.specs.standard.language.Reading.{ReadsParts, ReadsPart, ReadsExpression, ReadsConditional, ReadsLevel, ReadsOperands, prior_of, figure_at, over, is_question}
use Rattle.sh_tree.specs.standard.language.States.{Spot, deeper}
use Rattle.sh_tree.specs.standard.language.Trees.{span, chain_of}
use Rattle.sh_words.specs.declared.mode.Mode.{Mode}
use Rattle.sh_words.specs.declared.frames.Holder.{Holder}
use Rattle.sh_words.specs.declared.frames.Holder.TheVariants as holder
use Rattle.sh_words.specs.declared.frames.Opening.TheVariants as opening
use Rattle.sh_words.specs.declared.frames.Operation.{Operation}
use Rattle.sh_words.specs.declared.frames.Operation.TheVariants as operation
use Rattle.sh_words.specs.declared.frames.Frame.{Frame}
use Rattle.sh_words.specs.declared.frames.Frame.TheVariants as frame
use Rattle.sh_words.specs.declared.frames.Focus.{Focus}
use Rattle.sh_words.specs.declared.frames.Focus.TheVariants as focus
use Rattle.sh_words.specs.declared.builder.WordBuilder.{WordBuilder}
use Rattle.sh_words.specs.Modes.{context_of, first_prior}
use Rattle.sh_words.specs.States.{context_in, prior_in, found_in, made}

-- What a builder does not know of its place: how many commands began before it; whether newline
-- tokens are ruled out; whether a here-document's body is around it; whether tabs at the beginning
-- of lines are stripped there.
pub record Around : Type 0 where
  pub count : ℕ
  pub quiet : Bool
  pub body : Bool
  pub tabs : Bool

abbrev pub spot : Around → ℕ → ℕ → Spot
spot g depth i = record { at = i; count = g.count; depth = depth; quiet = g.quiet; joins = g.body; tabs = g.tabs }

-- at i, after what was read up to u
abbrev pub placed : Around → ℕ → ℕ → Spot → Spot
placed g depth i u = record { at = i; count = u.count; depth = depth; quiet = g.quiet; joins = g.body; tabs = g.tabs }

-- where the builder is
abbrev pub here : Around → WordBuilder → Spot
here g w = spot g w.depth w.at

-- What was read: the parts of a context, or an expression
pub data Read : Type 0 where
  parts : List Part → Read
  one : Expr → Read

abbrev pub IsParts : Holder → Type 0
IsParts (holder.Parts x prior ps) = Unit {0}
IsParts (holder.Operand x start) = ⊥

abbrev pub IsOperand : Holder → Type 0
IsOperand (holder.Parts x prior ps) = ⊥
IsOperand (holder.Operand x start) = Unit {0}

module _ (b : List ℕ) (limit : ℕ) (g : Around) where
  -- The part p was read, up to u, and given to the holder. K says what is wanted of what the holder
  -- makes of it.
  abbrev pub Holds : Holder → ℕ → Part → Spot → (Read → Spot → Type 0) → Type 0
  Holds (holder.Parts x prior found) next p u K = (v : Spot) × (qs : List Part) × ReadsParts limit b x next u v qs × K (parts ((found ++ p ∷ []) ++ qs)) v
  Holds (holder.Operand x start) next p u K = K (one (expr.Expansion p)) u

  -- a choice follows the condition c, up to j
  abbrev pub Chooses : Context → Expr → Spot → (Read → Spot → Type 0) → Type 0
  Chooses x c j K =
      (figure_at b j ≡ figure.Question) × (j.depth < limit) × (v : Spot) × (y : Expr) × ReadsExpression limit b x (deeper (over b j).at j) v y
      × (figure_at b v ≡ figure.Colon) × (w : Spot) × (n : Expr) × ReadsConditional limit b x (over b v) w n × K (one (expr.Choice c y n)) (placed g j.depth w.at w)

  -- the operand e of the operation was read, up to j
  abbrev pub Operates : Context → Operation → Expr → Spot → (Read → Spot → Type 0) → Type 0
  Operates x (operation.Parenthesis depth) e j K = (figure_at b j ≡ figure.Close) × K (one (expr.Parenthesis e)) (placed g depth (over b j).at j)
  Operates x (operation.Unary depth o) e j K = K (one (expr.Unary o e)) (placed g depth j.at j)
  Operates x (operation.First level) e j K = (v : Spot) × (es : List (Binary × Expr)) × ReadsOperands limit b x level j v es × K (one (chain_of e es)) v
  Operates x (operation.More level first rest o) e j K =
      (v : Spot) × (es : List (Binary × Expr)) × ReadsOperands limit b x level j v es × K (one (expr.Chain first (rest ++ (o, e) ∷ es))) v
  Operates x operation.Condition e j K = ((is_question (figure_at b j) ≡ false) × K (one e) j) ⊎ Chooses x e j K
  Operates x (operation.Yes depth c) y j K =
      (figure_at b j ≡ figure.Colon) × (w : Spot) × (n : Expr) × ReadsConditional limit b x (over b j) w n × K (one (expr.Choice c y n)) (placed g depth w.at w)
  Operates x (operation.No depth c y) n j K = K (one (expr.Choice c y n)) (placed g depth j.at j)
  Operates x (operation.Assign depth name o) e j K = K (one (expr.Assign name o e)) (placed g depth j.at j)

  -- what was read in the frame goes up to j, if expansions in arithmetic are read in the context
  abbrev pub After : Context → Frame → Read → Spot → (Read → Spot → Type 0) → Type 0
  After x (frame.Opened h depth start inside o) (parts ps) j K = (p : Part) × (made o start inside ps j.at ≡ Some p) × Holds h 0 p (placed g depth j.at j) K
  After x (frame.Opened h depth start inside o) (one e) j K =
      (o ≡ opening.Arith) × (figure_at b j ≡ figure.Close) × (is_closed b (over b j).at ≡ true)
      × Holds h 0 (part.Arith (span start ((over b j).at + 1)) e) (placed g depth ((over b j).at + 1) j) K
  After x (frame.Operation f) (parts ps) j K = ⊥
  After x (frame.Operation f) (one e) j K = Operates x f e j K

  -- the context of the frame
  abbrev pub outer : Context → Frame → Context
  outer x (frame.Opened h depth start inside o) = context_in h
  outer x (frame.Operation f) = x

  -- y was read in the innermost frame, up to j. What is from there to u closes all of them, and the
  -- word is ps.
  abbrev pub Then : Context → List Frame → Read → Spot → Spot → List Part → Type 0
  Then x [] (parts all) j u ps = (ps ≡ all) × (u ≡ j)
  Then x [] (one e) j u ps = ⊥
  Then x (f ∷ fs) y j u ps = After x f y j (λ z v. Then (outer x f) fs z v u ps)

  -- what is from s to u ends the word, of the parts ps
  abbrev pub Rest : Mode → Focus → Holder → List Frame → Spot → Spot → List Part → Type 0
  Rest m focus.Start h fs s u ps = ReadsParts limit b (context_of b m s.at) (first_prior m) s u ps
  Rest m focus.Parts h fs s u ps =
      IsParts h × (v : Spot) × (qs : List Part) × ReadsParts limit b (context_in h) (prior_in h) s v qs × Then (context_in h) fs (parts (found_in h ++ qs)) v u ps
  Rest m focus.Expression h fs s u ps = IsOperand h × (v : Spot) × (e : Expr) × ReadsExpression limit b (context_in h) s v e × Then (context_in h) fs (one e) v u ps
  Rest m focus.Conditional h fs s u ps = IsOperand h × (v : Spot) × (e : Expr) × ReadsConditional limit b (context_in h) s v e × Then (context_in h) fs (one e) v u ps
  Rest m (focus.Level l) h fs s u ps = IsOperand h × (v : Spot) × (e : Expr) × ReadsLevel limit b (context_in h) l s v e × Then (context_in h) fs (one e) v u ps
  Rest m (focus.Have e) h fs s u ps = IsOperand h × Then (context_in h) fs (one e) s u ps
  Rest m (focus.Commands start style) h fs s u ps = ⊥

-- What is left of a word: at a limit, with what is around, its end and its parts
abbrev pub Leftover : Type 1
Leftover = ℕ → Around → Spot → List Part → Type 0

-- what is left for the builder
unfoldable pub Left : List ℕ → WordBuilder → Leftover
Left b w limit g u ps = Rest b limit g w.mode w.focus w.holder w.frames (here g w) u ps

-- what is left where a part with the sign begins at `start`
unfoldable pub LeftPart : List ℕ → WordBuilder → Sign → ℕ → ℕ → Leftover
LeftPart b w s start end limit g u ps =
    (v : Spot) × (p : Part) × ReadsPart limit b (context_in w.holder) s (spot g w.depth start) end v p
    × Holds b limit g w.holder (prior_of b s v.at) p v (λ y j. Then b limit g (context_in w.holder) w.frames y j u ps)
