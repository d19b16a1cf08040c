-- Words that have commands in them.
-- POSIX.1-2024, XCU 2.6.3 (command substitution).
use Rattle.std.specs.Prelude.{◌≡◌, ℕ, ◌+◌, ◌-◌, ◌<◌, ◌≤◌, ◌⊎◌, nat_lt, Bool, true, false, if◌then◌else◌, List, length, drop, take, Some, None, Result, Ok, Err, IfErr}
use Rattle.sh_tree.specs.declared.refusal.Fault.TheVariants as fault
use Rattle.sh_tree.specs.declared.refusal.Form.TheVariants as form
use Rattle.sh_tree.specs.declared.refusal.Refusal.{Refusal}
use Rattle.sh_tree.specs.declared.refusal.Refusal.TheVariants.{Syntax, LeftOut, TooDeep}
use Rattle.sh_tree.specs.declared.limits.TheConstants.{MAX_COMMANDS}
use Rattle.sh_tree.specs.declared.tree.CommandStyle.{CommandStyle}
use Rattle.sh_tree.specs.declared.tree.CommandStyle.TheVariants.{Paren, Backquote}
use Rattle.sh_tree.specs.declared.tree.Script.{Script}
use Rattle.sh_tree.specs.standard.language.Commands.{lead_at}
use Rattle.sh_tree.specs.standard.language.Reading.{ReadsScript}
use Rattle.sh_tree.specs.standard.language.States.{within}
use Rattle.sh_tree.specs.standard.language.Substitutions.{backquote_end, commands_text, closes, has_removed_backslash, removes_no_backslash}
use Rattle.sh_scan.specs.Backquotes.{IsFirstKept}
use Rattle.sh_grammar.specs.declared.state.State.{State}
use Rattle.sh_grammar.specs.declared.ticks.Ticks.{Ticks}
use Rattle.sh_grammar.specs.declared.ticks.Ticks.TheVariants.{Here}
use Rattle.sh_grammar.specs.Faults.{TellsAt, ended, stage_at}
use Rattle.sh_grammar.specs.States.{here, substituted, waiting, Lies, Stands}
use Rattle.sh_grammar.specs.Readers.{Answers, One, Reading, Refused, SequenceFrom}
use Rattle.sh_grammar.specs.Ticks.{deeper}

-- a level begins at s: the here-documents of its commands are its own
abbrev pub IsLevel : State → Type 0
IsLevel s = here s ≡ within (here s).spot

-- the commands of a substitution of the style from s on with all their here-documents, up to what
-- closes it
abbrev pub ClosedFrom : CommandStyle → List ℕ → State → Reading Script
ClosedFrom style b s limit v t = ReadsScript limit b (here s).spot v.spot t × (closes style b v.spot.at ≡ true) × (v ≡ within v.spot)

-- What is reported of the substitution at i if its commands end at v, and it does not: the token at
-- v, or that the substitution is open.
pub record TellsOpen (b : List ℕ) (style : CommandStyle) (i : ℕ) (v : State) (e : Refusal) : Type 0 where
  pub open_here : closes style b v.at ≡ false
  pub at_end : v.at ≡ length b → e ≡ ended b v fault.OpenSubstitution i
  pub inside : v.at < length b → TellsAt b (lead_at b (stage_at v.fresh) v.at) v e

-- If it ends there, that the body of a here-document is outside.
pub record TellsAcross (b : List ℕ) (style : CommandStyle) (v : State) (e : Refusal) : Type 0 where
  pub closed_here : closes style b v.at ≡ true
  pub at : ℕ
  pub waits : Some at ≡ waiting None v.pending
  pub across : e ≡ LeftOut form.HereAcross at

-- the commands from s on end at v, and what is reported of that
pub record TellsEnd (b : List ℕ) (style : CommandStyle) (i : ℕ) (s : State) (e : Refusal) : Type 0 where
  pub end : State
  pub commands : Script
  pub one : One (SequenceFrom b s) (here end) commands
  pub stands : Stands b end
  pub around : end.ticks ≡ s.ticks
  pub tells : TellsOpen b style i end e ⊎ TellsAcross b style end e

-- What is reported of the substitution at i with the commands from s on: a refusal of these, or what
-- is reported of their end.
abbrev pub TellsClosed : List ℕ → CommandStyle → ℕ → State → Refusal → Type 0
TellsClosed b style i s e = Refused b (SequenceFrom b s) e ⊎ TellsEnd b style i s e

-- The same for a substitution in a word at s, whose commands begin at or after i, in the text that
-- they are read in. There n levels are open.
abbrev pub AskedFrom : List ℕ → CommandStyle → Bool → ℕ → ℕ → State → Reading Script
AskedFrom b style quoted i n s limit v t =
    (removes_no_backslash style quoted b i ≡ true) × ClosedFrom style (commands_text style b i) (substituted (commands_text style b i) i n s.ticks s) limit v t

-- t are these commands, up to v, and no others are
pub record Handed (b : List ℕ) (style : CommandStyle) (quoted : Bool) (i n : ℕ) (s : State) (t : Script) (v : State) : Type 0 where
  pub one : One (AskedFrom b style quoted i n s) (here v) t
  pub from : i ≤ v.at
  pub within : v.at < length b
  pub few : v.count ≤ MAX_COMMANDS

abbrev pub Hands : List ℕ → CommandStyle → Bool → ℕ → ℕ → State → Result (Script × State) Refusal → Type 0
Hands b style quoted i n s (Ok r) = Handed b style quoted i n s r.0 r.1
Hands b style quoted i n s (Err e) = Refused b (AskedFrom b style quoted i n s) e

-- where a substitution opens whose commands begin at i: at its `$(` or its backquote
unfoldable pub opened : CommandStyle → ℕ → ℕ
opened Paren i = i - 2
opened Backquote i = i - 1

-- the refusal has a place before i, or none
unfoldable pub is_told_before : Refusal → ℕ → Bool
is_told_before (Syntax f at) i = nat_lt at i
is_told_before (LeftOut f at) i = nat_lt at i
is_told_before (TooDeep at) i = nat_lt at i
is_told_before _ i = true

-- What is reported of commands with a backslash at i that goes before they are read: their refusal,
-- if it comes first, or else the backslash.
unfoldable pub first_told : Result (Script × State) Refusal → ℕ → Refusal
first_told (Ok r) i = LeftOut form.BackslashInBackquotes i
first_told (Err e) i = if is_told_before e i then e else LeftOut form.BackslashInBackquotes i

-- what is answered of the commands of the substitution that begin at or after i, in a word at s
pub record AnswersLevel (b : List ℕ) (style : CommandStyle) (i n : ℕ) (ticks : Ticks) (s : State) (r : Result (Script × State) Refusal) : Type 0 where
  pub reads : Answers b (ClosedFrom style b (substituted b i n ticks s)) i r
  pub told : IfErr r (TellsClosed b style (opened style i) (substituted b i n ticks s))

-- Such commands in the text that ends with the backquote that closes them, with a backslash that
-- goes before they are read: what is reported of that.
pub record TellsKept (b : List ℕ) (quoted : Bool) (i n : ℕ) (s : State) (e : Refusal) : Type 0 where
  pub further : ℕ
  pub first : IsFirstKept quoted (drop i b) further
  pub found : Result (Script × State) Refusal
  pub answers : AnswersLevel b Backquote i n (Here quoted) s found
  pub is : e ≡ first_told found (i + further)

-- what is reported of commands in the text that ends with the backquote that closes them
pub record TellsBackquoted (b : List ℕ) (quoted : Bool) (i n : ℕ) (s : State) (e : Refusal) : Type 0 where
  pub plain : has_removed_backslash quoted (drop i b) ≡ false → TellsClosed b Backquote (opened Backquote i) (substituted b i n (Here quoted) s) e
  pub kept : has_removed_backslash quoted (drop i b) ≡ true → TellsKept b quoted i n s e

-- what is reported of the commands of the substitution of the style in a word at s
abbrev pub TellsHanded : List ℕ → CommandStyle → Bool → ℕ → ℕ → State → Refusal → Type 0
TellsHanded b Paren quoted i n s e = TellsClosed b Paren (opened Paren i) (substituted b i n (deeper s.ticks) s) e
TellsHanded b Backquote quoted i n s e =
    (length b < backquote_end b i → TellsClosed b Backquote (opened Backquote i) (substituted b i n s.ticks s) e)
    × (backquote_end b i ≤ length b → TellsBackquoted (take (backquote_end b i) b) quoted i n s e)

-- v is s after the commands in a word
pub record Counted (b : List ℕ) (s v : State) : Type 0 where
  pub same : v ≡ record s { count = v.count }
  pub lies : Lies b v
