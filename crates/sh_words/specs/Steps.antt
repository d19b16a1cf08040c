-- What the small steps of a builder answer, exactly.
-- POSIX.1-2024, XCU 2.6 (word expansions).
use Rattle.std.specs.Prelude.{◌≡◌, ◌<◌, ◌≤◌, ℕ, ◌+◌, true, Option, Some, None, Result, Ok, Err}
use Rattle.sh_tree.specs.declared.refusal.Refusal.{Refusal}
use Rattle.sh_tree.specs.declared.refusal.Refusal.TheVariants.{Syntax, TooDeep, Memory}
use Rattle.sh_tree.specs.declared.token.word.Context.{Context}
use Rattle.sh_words.specs.declared.frames.Opening.{Opening}
use Rattle.sh_words.specs.declared.frames.Operation.{Operation}
use Rattle.sh_words.specs.declared.frames.Focus.{Focus}
use Rattle.sh_words.specs.declared.builder.WordBuilder.{WordBuilder}
use Rattle.sh_words.specs.declared.builder.Next.{Next}
use Rattle.sh_words.specs.declared.builder.Next.TheVariants.{Inner}
use Rattle.sh_tree.specs.declared.refusal.Fault.TheVariants.{BadArith}
use Rattle.sh_tree.specs.declared.tree.CommandStyle.{CommandStyle}
use Rattle.sh_tree.specs.declared.tree.Part.{Part}
use Rattle.sh_tree.specs.standard.language.Words.{is_quoted}
use Rattle.sh_words.specs.declared.frames.Holder.{Holder}
use Rattle.sh_words.specs.States.{context_in, asking, opened, operating, nests, level_start, made, found_in, given}

-- the operation is entered, a level deeper, or the limit is met
abbrev pub Enters : WordBuilder → Operation → Focus → ℕ → ℕ → WordBuilder → Result (Option Next) Refusal → Type 0
Enters old f x end place new (Ok None) = (old.depth < 64) × (new ≡ operating old f (old.depth + 1) x end)
Enters old f x end place new (Err (TooDeep at)) = (64 ≤ old.depth) × (at ≡ place)
Enters old f x end place new (Err Memory) = Unit {0}
Enters old f x end place new _ = ⊥

-- the part is opened, or the limit is met
abbrev pub Opens : WordBuilder → Opening → Context → ℕ → ℕ → WordBuilder → Result (Option Next) Refusal → Type 0
Opens old o x start inside new (Ok None) = (nests o ≡ true → old.depth < 64) × (new ≡ opened old o x start inside)
Opens old o x start inside new (Err (TooDeep at)) = (nests o ≡ true) × (64 ≤ old.depth) × (at ≡ level_start o start inside)
Opens old o x start inside new (Err Memory) = Unit {0}
Opens old o x start inside new _ = ⊥

-- the commands are asked for, or the limit is met
abbrev pub Asked : WordBuilder → CommandStyle → ℕ → ℕ → WordBuilder → Result (Option Next) Refusal → Type 0
Asked old style start end new (Ok (Some (Inner at depth s quoted))) =
    (old.depth < 64) × (at ≡ end) × (depth ≡ old.depth + 1) × (s ≡ style) × (quoted ≡ is_quoted (context_in old.holder).site) × (new ≡ asking old style start end)
Asked old style start end new (Err (TooDeep at)) = (64 ≤ old.depth) × (at ≡ start)
Asked old style start end new _ = ⊥

-- the part that the opening makes of what is held is given to the holder around it
abbrev pub Closes : WordBuilder → Holder → ℕ → ℕ → ℕ → Opening → ℕ → WordBuilder → Result (Option Next) Refusal → Type 0
Closes old h depth start inside o end new (Ok None) =
    (p : Part) × (made o start inside (found_in old.holder) end ≡ Some p) × (new ≡ given (record old { holder = h; depth = depth }) 0 p end)
Closes old h depth start inside o end new (Err (Syntax f at)) = (made o start inside (found_in old.holder) end ≡ None) × (f ≡ BadArith) × (at ≡ start)
Closes old h depth start inside o end new (Err Memory) = Unit {0}
Closes old h depth start inside o end new _ = ⊥
