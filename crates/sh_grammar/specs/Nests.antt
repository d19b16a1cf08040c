-- A function value that reads the sequences inside commands.
-- POSIX.1-2024, XCU 2.9.4 (compound commands).
use Rattle.std.specs.Prelude.{ℕ, ◌-◌, ◌<◌, ◌≤◌, List, length, Result}
use Rattle.std.specs.declared.alloc.Global.{Global}
use denote.Ref.{Bor}
use Rattle.sh_tree.specs.declared.limits.TheConstants.{MAX_SCRIPT}
use Rattle.sh_tree.specs.declared.tree.Script.{Script}
use Rattle.sh_tree.specs.declared.refusal.Refusal.{Refusal}
use Rattle.sh_grammar.specs.declared.state.State.{State}
use Rattle.sh_grammar.specs.States.{Stands}
use Rattle.sh_grammar.specs.Readers.{Answers, SequenceFrom}

-- it may be called if fewer than so many bytes are left
pub record Nests (left : ℕ) (pre : Global → Bor (List ℕ) → State → Type 0)
    (post : Global → Bor (List ℕ) → State → Result (Script × State) Refusal → Type 0) : Type 0 where
  pub callable : (alloc : Global) (b : Bor (List ℕ)) (s : State) → length b.now ≤ MAX_SCRIPT → Stands b.now s → length b.now - s.at < left → pre alloc b s
  pub gives : (alloc : Global) (b : Bor (List ℕ)) (s : State) (r : Result (Script × State) Refusal) → post alloc b s r → Answers b.now (SequenceFrom b.now s) s.at r
