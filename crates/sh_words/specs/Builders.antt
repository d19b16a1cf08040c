-- What a caller sees of a builder: what it reads, how far it is, what it has refused.
-- POSIX.1-2024, XCU 2.6 (word expansions).
use Rattle.std.specs.Prelude.{◌≡◌, ◌≤◌, ℕ, Bool, List, length, Option, None}
use Rattle.sh_tree.specs.declared.refusal.Refusal.{Refusal}
use Rattle.sh_words.specs.declared.mode.Mode.{Mode}
use Rattle.sh_words.specs.declared.frames.Focus.TheVariants as focus
use Rattle.sh_words.specs.declared.builder.WordBuilder.{WordBuilder}
use Rattle.sh_words.specs.Modes.{seen}
use Rattle.sh_words.specs.Sound.{IsSound}

-- how the word is read
abbrev pub mode_of : WordBuilder → Mode
mode_of w = w.mode

-- the offset where the word begins, and the one up to which it is read
abbrev pub begin_of : WordBuilder → ℕ
begin_of w = w.begin

abbrev pub position : WordBuilder → ℕ
position w = w.at

-- the text that the builder sees
abbrev pub text_of : List ℕ → WordBuilder → List ℕ
text_of b w = seen b w.mode

-- what it has refused, and answers again
abbrev pub refused : WordBuilder → Option Refusal
refused w = w.failed

-- whether the text ends with the backquote around the word, and whether that substitution is in
-- double quotes
abbrev pub inside_of : WordBuilder → Option Bool
inside_of w = w.inside

-- nothing was refused
abbrev pub Goes : WordBuilder → Type 0
Goes w = w.failed ≡ None

-- nothing is read yet
abbrev pub IsNew : WordBuilder → Type 0
IsNew w = w.focus ≡ focus.Start

-- it is in its text
abbrev pub IsInside : List ℕ → WordBuilder → Type 0
IsInside b w = w.at ≤ length (seen b w.mode)

-- what holds of it at each step, in its text
abbrev pub IsSoundIn : List ℕ → WordBuilder → Type 0
IsSoundIn b w = IsSound (seen b w.mode) w
