-- What `if` holds.
-- POSIX.1-2024, XCU 2.9.4.4 (if conditional construct).
use Rattle.std.specs.Prelude.{◌≡◌, ℕ, List, [], Option}
use Rattle.sh_tree.specs.declared.token.command.Reserved.TheVariants as word
use Rattle.sh_tree.specs.declared.tree.Branch.{Branch}
use Rattle.sh_tree.specs.declared.tree.Script.{Script}
use Rattle.sh_tree.specs.standard.language.Reading.{ReadsList, ReadsBranches, ReadsElse}
use Rattle.sh_tree.specs.standard.language.States as states
use Rattle.sh_tree.specs.standard.language.Trees.{branch}
use Rattle.sh_grammar.specs.declared.state.State.{State}
use Rattle.sh_grammar.specs.States.{here}
use Rattle.sh_grammar.specs.Phrases.{ListBefore}
use Rattle.sh_grammar.specs.Readers.{Reading, unread}

-- a condition, `then` and a list
abbrev pub BranchFrom : List ℕ → State → Reading Branch
BranchFrom b s limit v x =
    (u : states.State) × (c : Script) × (t : Script) × ListBefore b word.Then s limit u c × ReadsList limit b unread u v t × (x ≡ branch c t)

-- one branch or more, and what follows them up to `fi`
abbrev pub BranchesFrom : List ℕ → State → Reading (List Branch × Option Script)
BranchesFrom b s limit v x = ReadsBranches limit b unread (here s) v x.0 x.1

-- what follows the last branch, up to `fi`
abbrev pub OtherwiseFrom : List ℕ → State → Reading (Option Script)
OtherwiseFrom b s limit v o = ReadsElse limit b unread (here s) v [] o
