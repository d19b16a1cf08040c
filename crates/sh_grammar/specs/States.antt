-- Where a reader of commands is, as the reading says it.
-- POSIX.1-2024, XCU 2.10 (shell grammar).
use Rattle.std.specs.Prelude.{◌≡◌, ◌<◌, ℕ, ◌≤◌, Bool, true, false, not, ◌||◌, List, [], ◌∷◌, length, map, Option, Some, None}
use Rattle.sh_tree.specs.declared.limits.TheConstants.{MAX_COMMANDS, MAX_NESTING}
use Rattle.sh_tree.specs.standard.language.Commands.{blanks}
use Rattle.sh_tree.specs.standard.language.HereDocuments as documents
use Rattle.sh_tree.specs.standard.language.Reading.{is_some}
use Rattle.sh_tree.specs.standard.language.States as states
use Rattle.sh_tree.specs.standard.language.States.{waits}
use Rattle.sh_grammar.specs.declared.mark.Mark.{Mark}
use Rattle.sh_grammar.specs.declared.state.State.{State}
use Rattle.sh_grammar.specs.declared.ticks.Ticks.{Ticks}
use Rattle.sh_grammar.specs.declared.ticks.Ticks.TheVariants.{Outside}
use Rattle.sh_bodies.specs.Fill.{document_of}
use Rattle.sh_grammar.specs.Marks.{mark_of}

-- the here-documents of this level that wait
abbrev pub pending_of : State → List documents.Mark
pending_of s = map mark_of s.pending

-- the bodies of this level that came
abbrev pub bodies_of : State → List states.Document
bodies_of s = map document_of s.bodies

-- the operator of the first here-document that waits, those outside first
abbrev pub waiting : Option ℕ → List Mark → Option ℕ
waiting (Some at) ms = Some at
waiting None [] = None
waiting None (m ∷ ms) = Some m.at

-- a spot at i, at which newlines may be ruled out
abbrev pub placed : ℕ → State → Bool → states.Spot
placed i s quiet = record { at = i; count = s.count; depth = s.depth; quiet = quiet; joins = s.joins; tabs = s.tabs }

-- in a word at i
abbrev pub spot_of : ℕ → State → states.Spot
spot_of i s = placed i s (is_some s.outer || waits (pending_of s))

-- the reading's state
abbrev pub here : State → states.State
here s = record { spot = placed s.at s (is_some s.outer); closed = s.closed; pending = pending_of s; bodies = bodies_of s }

-- at the token at or after i
abbrev pub moved : List ℕ → ℕ → State → State
moved b i s = record s { at = blanks s.joins b i; fresh = true }

-- an operator is before n, if there is one
abbrev pub IsBefore : ℕ → Option ℕ → Type 0
IsBefore n None = Unit {0}
IsBefore n (Some i) = i < n

-- so do those of here-documents, within the limit of nesting
abbrev pub AreBefore : ℕ → List Mark → Type 0
AreBefore n [] = Unit {0}
AreBefore n (m ∷ ms) = (m.at < n) × AreBefore n ms × (m.depth ≤ MAX_NESTING)

-- in the text, within the limits
pub record Lies (b : List ℕ) (s : State) : Type 0 where
  pub inside : s.at ≤ length b
  pub few : s.count ≤ MAX_COMMANDS
  pub shallow : s.depth ≤ MAX_NESTING
  pub around : IsBefore s.at s.outer
  pub behind : AreBefore s.at s.pending

-- at a token of the text, within the limits
pub record Stands (b : List ℕ) (s : State) : Type 0 where
  pub inside : s.at ≤ length b
  pub settled : blanks s.joins b s.at ≡ s.at
  pub few : s.count ≤ MAX_COMMANDS
  pub shallow : s.depth ≤ MAX_NESTING
  pub around : IsBefore s.at s.outer
  pub behind : AreBefore s.at s.pending

-- at the first token of a text
abbrev pub first_of : List ℕ → State
first_of b = record { at = blanks false b 0; count = 0; depth = 0; closed = false; fresh = true; outer = None; joins = false; tabs = false; ticks = Outside; pending = []; bodies = [] }

-- At the first token of the commands of a substitution, in a word after as many commands as s. They
-- begin at or after i, where n levels are open.
abbrev pub substituted : List ℕ → ℕ → ℕ → Ticks → State → State
substituted b i n ticks s = record {
  at = blanks s.joins b i;
  count = s.count;
  depth = n;
  closed = false;
  fresh = true;
  outer = waiting s.outer s.pending;
  joins = s.joins;
  tabs = s.tabs;
  ticks = ticks;
  pending = [];
  bodies = [];
}

-- where the body of a here-document is read
abbrev pub in_body : Mark → State → State
in_body m s = record {
  at = s.at;
  count = s.count;
  depth = m.depth;
  closed = false;
  fresh = true;
  outer = None;
  joins = not m.quoted;
  tabs = s.tabs || m.strip;
  ticks = Outside;
  pending = [];
  bodies = [];
}
