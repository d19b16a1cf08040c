-- One element of a simple command, and what is left after it.
-- POSIX.1-2024, XCU 2.9.1 (simple commands).
use Rattle.std.specs.Prelude.{◌<◌, ℕ, List, Result, Ok, Err}
use Rattle.sh_tree.specs.declared.refusal.Refusal.{Refusal}
use Rattle.sh_tree.specs.declared.token.command.Stage.{Stage}
use Rattle.sh_tree.specs.declared.tree.Element.{Element}
use Rattle.sh_grammar.specs.declared.state.State.{State}
use Rattle.sh_grammar.specs.States.{Stands}
use Rattle.sh_grammar.specs.Readers.{ElementsFrom, Refused, Steps}

-- x is the first of the elements from s on, and after it are those from `next` on
pub record ElementTo (b : List ℕ) (s : Stage × State) (x : Element) (next : Stage × State) : Type 0 where
  pub steps : Steps (ElementsFrom b) s x next
  pub from : s.1.at < next.1.at
  pub stands : Stands b next.1

-- the first of the elements from s on and what is after it, or why there are none
abbrev pub FirstElement : List ℕ → Stage × State → Result (Element × Stage × State) Refusal → Type 0
FirstElement b s (Ok r) = ElementTo b s r.0 (r.1, r.2)
FirstElement b s (Err e) = Refused b (ElementsFrom b s) e
