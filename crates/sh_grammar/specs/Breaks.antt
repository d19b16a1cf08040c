-- Newlines between commands, while no here-document waits for its body.
-- POSIX.1-2024, XCU 2.10 (shell grammar).
use Rattle.std.specs.Prelude.{◌≡◌, ◌≤◌, ◌<◌, ℕ, ◌+◌, false, List, Result, Ok, Err}
use Rattle.sh_tree.specs.declared.refusal.Refusal.{Refusal}
use Rattle.sh_tree.specs.declared.token.command.Stage.TheVariants.{First}
use Rattle.sh_tree.specs.standard.language.Commands.{lead_at, is_newline_lead}
use Rattle.sh_tree.specs.standard.language.Reading.{ReadsBreaks, ReadsDocuments}
use Rattle.sh_tree.specs.standard.language.States as states
use Rattle.sh_tree.specs.standard.language.States.{next, on_line}
use Rattle.sh_grammar.specs.declared.state.State.{State}
use Rattle.sh_grammar.specs.States.{here, Stands}
use Rattle.sh_grammar.specs.Readers.{Reading, Refused}

-- any number of newlines from s on lead to v, and none begins there
pub record BreaksTo (b : List ℕ) (s v : State) : Type 0 where
  pub forth : (limit : ℕ) (u : states.State) → ReadsBreaks limit b (here s) u → u ≡ here v
  pub back : ReadsBreaks 64 b (here s) (here v)
  pub none : is_newline_lead (lead_at b First v.at) ≡ false
  pub from : s.at ≤ v.at
  pub stands : Stands b v

-- any number of newlines from s on
abbrev pub BreaksFrom : List ℕ → State → Reading (Unit {0})
BreaksFrom b s limit v x = ReadsBreaks limit b (here s) v

-- after the newlines from s on, or why there is no way over them
abbrev pub Breaks : List ℕ → State → Result State Refusal → Type 0
Breaks b s (Ok v) = BreaksTo b s v
Breaks b s (Err e) = Refused b (BreaksFrom b s) e

-- the newline at s, and the bodies of the here-documents before it
abbrev pub LineFrom : List ℕ → State → Reading (Unit {0})
LineFrom b s limit v x =
    (u : states.State) × ((here s).spot.quiet ≡ false) × ReadsDocuments limit b (here s).pending (on_line (s.at + 1) (here s)) u × (v ≡ next b u.spot.at u)

-- the newline at s leads to v
pub record LineTo (b : List ℕ) (s v : State) : Type 0 where
  pub forth : (limit : ℕ) (u : states.State) → LineFrom b s limit u tt → u ≡ here v
  pub back : LineFrom b s 64 (here v) tt
  pub from : s.at < v.at
  pub stands : Stands b v

abbrev pub Line : List ℕ → State → Result State Refusal → Type 0
Line b s (Ok v) = LineTo b s v
Line b s (Err e) = Refused b (LineFrom b s) e
