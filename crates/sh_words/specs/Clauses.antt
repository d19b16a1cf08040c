-- What a builder promises, by what is left of the word before and after a step.
-- POSIX.1-2024, XCU 2.6 (word expansions): a word is read in one way or in none.
use Rattle.std.specs.Prelude.{◌≡◌, ◌<◌, ◌≤◌, ℕ, ◌+◌, Bool, true, List, length, Option, Some, None, Result, Ok, Err}
use Rattle.sh_tree.specs.declared.tree.CommandStyle.{CommandStyle}
use Rattle.sh_tree.specs.declared.tree.Part.{Part}
use Rattle.sh_tree.specs.declared.tree.Script.{Script}
use Rattle.sh_tree.specs.declared.refusal.Refusal.{Refusal}
use Rattle.sh_tree.specs.declared.refusal.Refusal.TheVariants.{TooLong, NulByte, Syntax, LeftOut, TooDeep, TooMany, Memory, Profile, CertSyntax, CertShape}
use Rattle.sh_tree.specs.standard.language.Commands.{blanks}
use Rattle.sh_tree.specs.standard.language.Reading.{ReadsScript}
use Rattle.sh_tree.specs.standard.language.States.{Spot}
use Rattle.sh_tree.specs.standard.language.Substitutions.{commands_text, closes, removes_no_backslash}
use Rattle.sh_tree.specs.standard.language.Trees.{word}
use Rattle.sh_words.specs.declared.builder.WordBuilder.{WordBuilder}
use Rattle.sh_words.specs.declared.builder.Next.{Next}
use Rattle.sh_words.specs.declared.builder.Next.TheVariants.{Done, Inner}
use Rattle.sh_words.specs.declared.frames.Focus.TheVariants as focus
use Rattle.sh_words.specs.Rest.{Around, spot, Leftover, Left}
use Rattle.sh_words.specs.States.{fed}

-- the same words are left: what was left still is, at each limit, and nothing is new within the
-- limit
pub record Keeps (b : List ℕ) (old : Leftover) (new : WordBuilder) : Type 0 where
  pub forth : (limit : ℕ) (g : Around) (u : Spot) (ps : List Part) → old limit g u ps → Left b new limit g u ps
  pub back : (g : Around) (u : Spot) (ps : List Part) → Left b new 64 g u ps → old 64 g u ps

-- the word is read, up to `end`: it was the only one left
pub record Ends (old : Leftover) (depth end : ℕ) (found : List Part) : Type 0 where
  pub forth : (limit : ℕ) (g : Around) (u : Spot) (ps : List Part) → old limit g u ps → (u ≡ spot g depth end) × (ps ≡ found)
  pub back : (g : Around) → old 64 g (spot g depth end) found

-- after commands
abbrev pub after_commands : Around → Spot → Around
after_commands g v = record g { count = v.count }

-- the spot of the first token of the commands that begin at `at`, in the text that they are read in
abbrev pub commands_spot : List ℕ → Around → CommandStyle → ℕ → ℕ → Spot
commands_spot b g style at depth = spot g depth (blanks g.body (commands_text style b at) at)

-- Commands come next, `at` being after their `$(` or their backquote, and the words left are those
-- that go on after them.
pub record Asks (b : List ℕ) (old : Leftover) (new : WordBuilder) (start at depth : ℕ) (style : CommandStyle) (quoted : Bool) : Type 0 where
  pub forth : (limit : ℕ) (g : Around) (u : Spot) (ps : List Part) → old limit g u ps
      → (v : Spot) × (s : Script) × (depth ≤ limit) × ReadsScript limit (commands_text style b at) (commands_spot b g style at depth) v s
      × (closes style (commands_text style b at) v.at ≡ true) × (removes_no_backslash style quoted b at ≡ true)
      × Left b (fed new start style s (v.at + 1)) limit (after_commands g v) u ps
  pub back : (g : Around) (u : Spot) (ps : List Part) (v : Spot) (s : Script) → ReadsScript 64 (commands_text style b at) (commands_spot b g style at depth) v s
      → closes style (commands_text style b at) v.at ≡ true → removes_no_backslash style quoted b at ≡ true
      → Left b (fed new start style s (v.at + 1)) 64 (after_commands g v) u ps → old 64 g u ps

-- no word is left, at any limit
abbrev pub Never : Leftover → Type 0
Never old = (limit : ℕ) (g : Around) (u : Spot) (ps : List Part) → old limit g u ps → ⊥

-- none is within the limit
abbrev pub TooDeepFor : Leftover → Type 0
TooDeepFor old = (g : Around) (u : Spot) (ps : List Part) → old 64 g u ps → ⊥

-- A refusal is answered at a place of the text, and only if no word is left, at any limit or at
-- that of 64.
abbrev pub Refuses : List ℕ → Leftover → Refusal → Type 0
Refuses b old Memory = Unit {0}
Refuses b old (Syntax f at) = (at ≤ length b) × Never old
Refuses b old (LeftOut f at) = (at < length b) × Never old
Refuses b old (TooDeep at) = (at ≤ length b) × TooDeepFor old
Refuses b old TooLong = ⊥
Refuses b old (NulByte at) = ⊥
Refuses b old TooMany = ⊥
Refuses b old (Profile r at) = ⊥
Refuses b old (CertSyntax n) = ⊥
Refuses b old CertShape = ⊥

-- the builder waits for the commands of the substitution at `start`
abbrev pub Waits : WordBuilder → ℕ → CommandStyle → Type 0
Waits w start style = w.focus ≡ focus.Commands start style

abbrev pub Answers : List ℕ → Leftover → WordBuilder → Next → Type 0
Answers b old new (Done w) = (ps : List Part) × (w ≡ word new.begin new.at ps) × Ends old new.depth new.at ps
Answers b old new (Inner at depth style quoted) = (start : ℕ) × Waits new start style × Asks b old new start at depth style quoted

abbrev pub Runs : List ℕ → Leftover → WordBuilder → Result Next Refusal → Type 0
Runs b old new (Ok next) = Answers b old new next
Runs b old new (Err e) = Refuses b old e

abbrev pub Steps : List ℕ → Leftover → WordBuilder → Result (Option Next) Refusal → Type 0
Steps b old new (Ok None) = Keeps b old new
Steps b old new (Ok (Some next)) = Answers b old new next
Steps b old new (Err e) = Refuses b old e
