-- What precedes the body of a function definition.
-- POSIX.1-2024, XCU 2.9.5 (function definition command).
use Rattle.std.specs.Prelude.{◌≡◌, ◌<◌, ℕ, ◌+◌, false, List, Result, Ok, Err}
use Rattle.sh_tree.specs.declared.token.command.Lead.TheVariants as lead
use Rattle.sh_tree.specs.declared.token.command.Operator.TheVariants as op
use Rattle.sh_tree.specs.declared.token.command.Stage.TheVariants.{Named}
use Rattle.sh_tree.specs.declared.refusal.Refusal.{Refusal}
use Rattle.sh_tree.specs.standard.language.Commands.{lead_at, name_end}
use Rattle.sh_grammar.specs.declared.state.State.{State}
use Rattle.sh_grammar.specs.States.{moved, Stands}
use Rattle.sh_grammar.specs.Faults.{IsFault, TellsAt}

-- after the name at s, with one more command
abbrev pub named : List ℕ → State → State
named b s = moved b (name_end b s.at) (record s { count = s.count + 1 })

-- after a token of one byte
abbrev pub over : List ℕ → State → State
over b s = moved b (s.at + 1) s

-- two parentheses are at s
pub record HasParentheses (b : List ℕ) (s : State) : Type 0 where
  pub begins : lead_at b (Named false) s.at ≡ lead.Operator op.LeftParenthesis
  pub ends : lead_at b (Named false) (over b s).at ≡ lead.Operator op.RightParenthesis

-- what is reported if there are not: the token at s, or the one after its `(`
pub record TellsBare (b : List ℕ) (s : State) (e : Refusal) : Type 0 where
  pub first : (lead_at b (Named false) s.at ≡ lead.Operator op.LeftParenthesis → ⊥) → TellsAt b (lead_at b (Named false) s.at) s e
  pub second : lead_at b (Named false) s.at ≡ lead.Operator op.LeftParenthesis → TellsAt b (lead_at b (Named false) (over b s).at) (over b s) e

-- after the two parentheses at s, or there are none
abbrev pub Parenthesized : List ℕ → State → Result State Refusal → Type 0
Parenthesized b s (Ok v) = HasParentheses b s × (v ≡ over b (over b s)) × (s.at < v.at) × Stands b v
Parenthesized b s (Err e) = IsFault b e × (HasParentheses b s → ⊥) × TellsBare b s e
