-- The words after the operators of redirections.
-- POSIX.1-2024, XCU 2.7 (redirection).
use Rattle.std.specs.Prelude.{◌≡◌, ℕ, true, false, List, [], ◌∷◌, ◌++◌}
use Rattle.sh_tree.specs.declared.token.command.Stage.TheVariants.{Named}
use Rattle.sh_tree.specs.declared.tree.Word.{Word}
use Rattle.sh_tree.specs.standard.language.Commands.{blanks, lead_at, is_word}
use Rattle.sh_tree.specs.standard.language.Contexts.{in_unsplit}
use Rattle.sh_grammar.specs.declared.mark.Mark.{Mark}
use Rattle.sh_grammar.specs.declared.state.State.{State}
use Rattle.sh_grammar.specs.Readers.{Reading, WordAt}

-- the word after an operator that ends at i
abbrev pub TargetFrom : List ℕ → ℕ → State → Reading Word
TargetFrom b i s limit v w =
    (is_word (lead_at b (Named false) (blanks s.joins b i)) ≡ true) × WordAt b (in_unsplit (blanks s.joins b i)) (blanks s.joins b i) s limit v w

-- the last here-document that waits has its operator at i
pub record IsMarked (i : ℕ) (ms : List Mark) : Type 0 where
  pub others : List Mark
  pub last : Mark
  pub is : ms ≡ others ++ last ∷ []
  pub operator : last.at ≡ i
