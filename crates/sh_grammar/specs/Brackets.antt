-- Lists between two tokens of one byte.
-- POSIX.1-2024, XCU 2.9.4.1 (grouping commands).
use Rattle.std.specs.Prelude.{◌≡◌, ℕ, ◌+◌, List}
use Rattle.sh_tree.specs.declared.token.command.Lead.{Lead}
use Rattle.sh_tree.specs.declared.tree.Script.{Script}
use Rattle.sh_tree.specs.standard.language.Reading.{ReadsList, lead_here, skip}
use Rattle.sh_tree.specs.standard.language.States as states
use Rattle.sh_tree.specs.standard.language.States.{lower, as_deep}
use Rattle.sh_grammar.specs.declared.state.State.{State}
use Rattle.sh_grammar.specs.States.{here, moved}
use Rattle.sh_grammar.specs.Readers.{Reading, unread}

-- the token at s, a list one level deeper, and the token that closes it
abbrev pub BracketFrom : List ℕ → Lead → State → Reading Script
BracketFrom b close s limit v t =
    (u : states.State) × ReadsList limit b unread (lower (skip b 1 (here s))) u t × (lead_here b u ≡ close) × (v ≡ as_deep (here s) (skip b 1 u))

-- one level inside, after the first byte
abbrev pub inner : List ℕ → State → State
inner b s = record (moved b (s.at + 1) s) { depth = s.depth + 1 }

-- after the byte that closes, where n levels are open
abbrev pub outer : List ℕ → ℕ → State → State
outer b n u = record (moved b (u.at + 1) u) { depth = n }
