-- The states of a builder that follow one another.
-- POSIX.1-2024, XCU 2.2 (quoting), 2.6 (word expansions).
use Rattle.std.specs.Prelude.{ℕ, ◌+◌, ◌-◌, ◌∷◌, ◌++◌, Bool, true, false, if◌then◌else◌, List, [], Option, Some, None}
use Rattle.sh_tree.specs.declared.tree.Script.{Script}
use Rattle.sh_tree.specs.declared.tree.Part.{Part}
use Rattle.sh_tree.specs.declared.tree.Part.TheVariants as part
use Rattle.sh_tree.specs.declared.tree.CommandStyle.{CommandStyle}
use Rattle.sh_tree.specs.declared.tree.ParameterOperator.TheVariants as operator
use Rattle.sh_tree.specs.declared.tree.Expr.{Expr}
use Rattle.sh_tree.specs.declared.tree.Expr.TheVariants as expr
use Rattle.sh_tree.specs.declared.token.word.Context.{Context}
use Rattle.sh_tree.specs.declared.token.word.Sign.{Sign}
use Rattle.sh_tree.specs.declared.token.word.Sign.TheVariants as sign
use Rattle.sh_tree.specs.standard.language.Trees.{span, word, param}
use Rattle.sh_tree.specs.standard.language.Words.{in_double, in_use, in_removal, in_arithmetic}
use Rattle.sh_words.specs.declared.frames.Holder.{Holder}
use Rattle.sh_words.specs.declared.frames.Holder.TheVariants as holder
use Rattle.sh_words.specs.declared.frames.Opening.{Opening}
use Rattle.sh_words.specs.declared.frames.Opening.TheVariants as opening
use Rattle.sh_words.specs.declared.frames.Operation.{Operation}
use Rattle.sh_words.specs.declared.frames.Frame.{Frame}
use Rattle.sh_words.specs.declared.frames.Frame.TheVariants as frame
use Rattle.sh_words.specs.declared.frames.Focus.{Focus}
use Rattle.sh_words.specs.declared.frames.Focus.TheVariants as focus
use Rattle.sh_words.specs.declared.builder.WordBuilder.{WordBuilder}
use Rattle.sh_words.specs.Modes.{context_of, first_prior}

-- What takes a part

-- the context in which the next part is read
abbrev pub context_in : Holder → Context
context_in (holder.Parts x prior ps) = x
context_in (holder.Operand x start) = x

-- the plain byte before it, or 0
abbrev pub prior_in : Holder → ℕ
prior_in (holder.Parts x prior ps) = prior
prior_in (holder.Operand x start) = 0

-- the parts before it
abbrev pub found_in : Holder → List Part
found_in (holder.Parts x prior ps) = ps
found_in (holder.Operand x start) = []

abbrev pub held : Holder → ℕ → Part → Holder
held (holder.Parts x prior ps) next p = holder.Parts x next (ps ++ p ∷ [])
held (holder.Operand x start) next p = holder.Operand x start

abbrev pub holding : Holder → Part → Focus
holding (holder.Parts x prior ps) p = focus.Parts
holding (holder.Operand x start) p = focus.Have (expr.Expansion p)

-- What signs make

-- the part that a sign is, from i to j, if it is a whole one
unfoldable pub whole_part : Sign → ℕ → ℕ → Option Part
whole_part sign.Plain i j = Some (part.Plain (span i j))
whole_part sign.Escaped i j = Some (part.Escaped (span i j))
whole_part sign.Joined i j = Some (part.Joined (span i j))
whole_part (sign.Single style) i j = Some (part.Single style (span i j))
whole_part sign.Tilde i j = Some (part.Tilde (span i j))
whole_part (sign.Value p) i j = Some (param i j p operator.Value)
whole_part (sign.Length p) i j = Some (param i j p operator.Length)
whole_part _ i j = None

-- what a sign that ends at j opens, and the context in it
unfoldable pub opening_of : Context → Sign → ℕ → Option (Opening × Context)
opening_of x sign.Double j = Some (opening.Double, in_double x)
opening_of x (sign.Use p a colon) j = Some (opening.Use p a colon, in_use x a j)
opening_of x (sign.Remove p r) j = Some (opening.Remove p r, in_removal x j)
opening_of x sign.Arith j = Some (opening.Arith, in_arithmetic x)
opening_of x _ j = None

-- a level is open in it
abbrev pub nests : Opening → Bool
nests opening.Double = false
nests _ = true

abbrev pub is_arithmetic : Opening → Bool
is_arithmetic opening.Arith = true
is_arithmetic _ = false

-- where that level begins: at the `$` of an arithmetic expansion, else at the word's first byte
abbrev pub level_start : Opening → ℕ → ℕ → ℕ
level_start opening.Arith start inside = start
level_start _ start inside = inside

abbrev pub holder_in : Opening → Context → ℕ → Holder
holder_in o x start = if is_arithmetic o then holder.Operand x start else holder.Parts x 0 []

abbrev pub focus_in : Opening → Focus
focus_in o = if is_arithmetic o then focus.Expression else focus.Parts

abbrev pub depth_in : Opening → ℕ → ℕ
depth_in o n = if nests o then n + 1 else n

-- the part that an opening at `start` makes of the parts in it, which begin at `inside`; it ends at
-- `end`
unfoldable pub made : Opening → ℕ → ℕ → List Part → ℕ → Option Part
made opening.Double start inside ps end = Some (part.Double (span start end) ps)
made (opening.Use p a colon) start inside ps end = Some (param start end p (operator.Use a colon (word inside (end - 1) ps)))
made (opening.Remove p r) start inside ps end = Some (param start end p (operator.Remove r (word inside (end - 1) ps)))
made opening.Arith start inside ps end = None

-- States

-- the part was read, up to `end`; `next` is its last byte if that is plain, else 0
abbrev pub given : WordBuilder → ℕ → Part → ℕ → WordBuilder
given w next p end = record w { holder = held w.holder next p; focus = holding w.holder p; at = end }

-- the commands of the substitution at `start` are handed back
abbrev pub fed : WordBuilder → ℕ → CommandStyle → Script → ℕ → WordBuilder
fed w start style s end = given w 0 (part.Command style (span start end) s) end

-- the expression was read, up to `end`
abbrev pub had : WordBuilder → ℕ → Expr → ℕ → WordBuilder
had w depth e end = record w { focus = focus.Have e; depth = depth; at = end }

-- a frame was put around what begins at `end`
abbrev pub pushed : WordBuilder → Frame → ℕ → Focus → ℕ → WordBuilder
pushed w f depth x end = record w { frames = f ∷ w.frames; depth = depth; focus = x; at = end }

-- an operand of the operation is read from `end` on
abbrev pub operating : WordBuilder → Operation → ℕ → Focus → ℕ → WordBuilder
operating w f depth x end = pushed w (frame.Operation f) depth x end

-- a part with something in it was opened
abbrev pub opened : WordBuilder → Opening → Context → ℕ → ℕ → WordBuilder
opened w o x start inside =
    record w { frames = frame.Opened w.holder w.depth start inside o ∷ w.frames; holder = holder_in o x start; depth = depth_in o w.depth; focus = focus_in o; at = inside }

-- the commands of the substitution at `start` are asked for
abbrev pub asking : WordBuilder → CommandStyle → ℕ → ℕ → WordBuilder
asking w style start end = record w { focus = focus.Commands start style; at = end }

abbrev pub focused : WordBuilder → Focus → WordBuilder
focused w x = record w { focus = x }

-- the frame is around
abbrev pub framed : WordBuilder → Frame → Focus → WordBuilder
framed w f x = record w { frames = f ∷ w.frames; focus = x }

-- the word's first part is read next
abbrev pub started : List ℕ → WordBuilder → WordBuilder
started b w = record w { holder = holder.Parts (context_of b w.mode w.at) (first_prior w.mode) []; focus = focus.Parts }

-- after tabs that are no part of the text
abbrev pub past_tabs : Holder → Holder
past_tabs (holder.Parts x prior ps) = holder.Parts x 0 ps
past_tabs (holder.Operand x start) = holder.Operand x start

abbrev pub skipped : WordBuilder → ℕ → WordBuilder
skipped w end = record w { holder = past_tabs w.holder; focus = focus.Parts; at = end }

-- the word was read, up to `end`: nothing is held any more
abbrev pub ended : WordBuilder → ℕ → WordBuilder
ended w end = record w { holder = holder.Parts (context_in w.holder) 0 []; focus = focus.Parts; at = end }
