-- Redirections after compound commands.
-- POSIX.1-2024, XCU 2.9.4 (compound commands).
use Rattle.std.specs.Prelude.{◌≡◌, ℕ, List}
use Rattle.sh_tree.specs.declared.tree.Command.{Command}
use Rattle.sh_tree.specs.declared.tree.Kind.{Kind}
use Rattle.sh_tree.specs.declared.tree.Redirect.{Redirect}
use Rattle.sh_tree.specs.standard.language.Reading.{is_empty}
use Rattle.sh_tree.specs.standard.language.States as states
use Rattle.sh_tree.specs.standard.language.States.{closing}
use Rattle.sh_tree.specs.standard.language.Trees.{command}
use Rattle.sh_grammar.specs.declared.state.State.{State}
use Rattle.sh_grammar.specs.Readers.{Reading, RedirectsFrom}

-- the redirections from s on, and the command that the compound command k before them then is, with
-- the number n, at i
abbrev pub RedirectedFrom : List ℕ → ℕ → ℕ → Kind → State → Reading Command
RedirectedFrom b n i k s limit v c =
    (u : states.State) × (qs : List Redirect) × RedirectsFrom b s limit u qs × (v ≡ closing (is_empty qs) u) × (c ≡ command n i k qs)
