-- What holds of a builder at each step, and how far it is from its end.
-- POSIX.1-2024, XCU 2.6 (word expansions).
use Rattle.std.specs.Prelude.{◌≡◌, ◌<◌, ◌≤◌, ℕ, ◌+◌, ◌-◌, ◌*◌, List, [], ◌∷◌, length, Option, Some, None, Result, Ok, Err}
use Rattle.sh_tree.specs.declared.refusal.Refusal.{Refusal}
use Rattle.sh_tree.specs.declared.token.word.Sign.TheVariants as sign
use Rattle.sh_tree.specs.standard.language.Arithmetic.{unary_level}
use Rattle.sh_tree.specs.standard.language.Words.{token}
use Rattle.sh_words.specs.declared.frames.Holder.{Holder}
use Rattle.sh_words.specs.declared.frames.Holder.TheVariants as holder
use Rattle.sh_words.specs.declared.frames.Operation.{Operation}
use Rattle.sh_words.specs.declared.frames.Operation.TheVariants as operation
use Rattle.sh_words.specs.declared.frames.Frame.{Frame}
use Rattle.sh_words.specs.declared.frames.Frame.TheVariants as frame
use Rattle.sh_words.specs.declared.frames.Focus.{Focus}
use Rattle.sh_words.specs.declared.frames.Focus.TheVariants as focus
use Rattle.sh_words.specs.declared.builder.WordBuilder.{WordBuilder}
use Rattle.sh_words.specs.declared.builder.Next.{Next}
use Rattle.sh_words.specs.declared.builder.Next.TheVariants.{Done, Inner}
use Rattle.sh_words.specs.Modes.{context_of, first_prior}
use Rattle.sh_words.specs.States.{context_in, prior_in}

-- the level of the operation is one that there is, and the depth around it is at least n
abbrev pub Operated : ℕ → Operation → Type 0
Operated n (operation.Parenthesis depth) = (n ≤ depth) × (depth ≤ 64)
Operated n (operation.Unary depth o) = (n ≤ depth) × (depth ≤ 64)
Operated n (operation.First level) = level < unary_level
Operated n (operation.More level first rest o) = level < unary_level
Operated n operation.Condition = Unit {0}
Operated n (operation.Yes depth c) = (n ≤ depth) × (depth ≤ 64)
Operated n (operation.No depth c y) = (n ≤ depth) × (depth ≤ 64)
Operated n (operation.Assign depth name o) = (n ≤ depth) × (depth ≤ 64)

module _ (b : List ℕ) where
  -- what is open began in the text
  abbrev pub Began : Holder → Type 0
  Began (holder.Parts x prior ps) = Unit {0}
  Began (holder.Operand x start) = start ≤ length b

  -- the frames are at depths of at least n, and what they hold began in the text
  abbrev pub Deep : ℕ → List Frame → Type 0
  Deep n [] = Unit {0}
  Deep n (frame.Opened h depth start inside o ∷ fs) = (n ≤ depth) × (depth ≤ 64) × (start ≤ length b) × Began h × Deep n fs
  Deep n (frame.Operation f ∷ fs) = Operated n f × Deep n fs

  -- a level is one that there is, a word that begins has nothing around it, and a substitution
  -- began in the text
  abbrev pub Fits : Focus → List Frame → Type 0
  Fits (focus.Level l) fs = l ≤ unary_level
  Fits focus.Start fs = fs ≡ []
  Fits (focus.Commands start style) fs = start ≤ length b
  Fits _ fs = Unit {0}

  abbrev pub IsSound : WordBuilder → Type 0
  IsSound w = (w.base ≤ w.depth) × (w.depth ≤ 64) × Fits w.focus w.frames × Began w.holder × Deep w.base w.frames

  -- how many turns take no byte
  abbrev pub turns_left : Focus → ℕ
  turns_left focus.Start = 1
  turns_left focus.Expression = 28
  turns_left focus.Conditional = 26
  turns_left (focus.Level l) = 2 * (12 - l)
  turns_left _ = 0

  -- what the builder has left to do
  abbrev pub work : WordBuilder → ℕ
  work w = 32 * (length b - w.at) + length w.frames + turns_left w.focus

  abbrev pub Same : WordBuilder → WordBuilder → Type 0
  Same old new = (new.mode ≡ old.mode) × (new.begin ≡ old.begin) × (new.base ≡ old.base) × (new.failed ≡ old.failed) × (new.inside ≡ old.inside)

  -- one turn of the builder
  abbrev pub StepMoves : WordBuilder → WordBuilder → Result (Option Next) Refusal → Type 0
  StepMoves old new (Ok None) = (old.at ≤ new.at) × (new.at ≤ length b) × Same old new
  StepMoves old new (Ok (Some (Done w))) = (old.at ≤ new.at) × (new.at ≤ length b) × Same old new
  StepMoves old new (Ok (Some (Inner at depth style quoted))) = (old.at < new.at) × (new.at ≤ length b) × (new.at ≡ at) × (old.base < depth) × (depth ≤ 64) × Same old new
  StepMoves old new (Err e) = Unit {0}

  abbrev pub StepSound : Result (Option Next) Refusal → WordBuilder → Type 0
  StepSound (Ok next) new = IsSound new
  StepSound (Err e) new = Unit {0}

  abbrev pub StepWorks : WordBuilder → WordBuilder → Result (Option Next) Refusal → Type 0
  StepWorks old new (Ok None) = work new < work old
  StepWorks old new _ = Unit {0}

  -- a part takes bytes, and the word does not end with it
  abbrev pub Takes : ℕ → WordBuilder → Result (Option Next) Refusal → Type 0
  Takes start new (Ok None) = start < new.at
  Takes start new (Ok (Some (Done w))) = ⊥
  Takes start new _ = Unit {0}

  -- parts with nothing around them take bytes, up to where their context ends
  abbrev pub TakesParts : WordBuilder → WordBuilder → Result (Option Next) Refusal → Type 0
  TakesParts old new (Ok None) = old.frames ≡ [] → old.at < new.at
  TakesParts old new (Ok (Some (Done w))) = (token b (context_in old.holder) (prior_in old.holder) old.at).sign ≡ sign.Stop
  TakesParts old new _ = Unit {0}

  -- the context of the word does not end where the word begins
  abbrev pub Begins : WordBuilder → Type 0
  Begins w = ((token b (context_of b w.mode w.at) (first_prior w.mode) w.at).sign ≡ sign.Stop) → ⊥

  -- a word that begins takes bytes unless its context ends at once
  abbrev pub TakesWord : WordBuilder → WordBuilder → Result Next Refusal → Type 0
  TakesWord old new (Ok (Done w)) = old.focus ≡ focus.Start → Begins old → old.at < new.at
  TakesWord old new _ = Unit {0}

  -- the builder reads on, up to an answer
  abbrev pub RunMoves : WordBuilder → WordBuilder → Result Next Refusal → Type 0
  RunMoves old new (Ok (Done w)) = (old.at ≤ new.at) × (new.at ≤ length b) × Same old new × IsSound new
  RunMoves old new (Ok (Inner at depth style quoted)) = (old.at < new.at) × (new.at ≤ length b) × (new.at ≡ at) × (old.base < depth) × (depth ≤ 64) × Same old new × IsSound new
  RunMoves old new (Err e) = Unit {0}
