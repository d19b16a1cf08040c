-- A word (XCU 2.3) that is read up to the commands of a substitution (XCU 2.6.3), and then on.
use Rattle.std.specs.Prelude.{◌≡◌, ◌≤◌, ℕ, List, length}
use Rattle.sh_words.specs.declared.builder.WordBuilder.{WordBuilder}
use Rattle.sh_words.specs.declared.mode.Mode.{Mode}
use Rattle.sh_words.specs.Builders.{Goes, mode_of, position}
use Rattle.sh_words.specs.Modes.{seen}
use Rattle.sh_words.specs.Sound.{IsSound}

-- the builder reads a word of the mode in the text, and goes on
pub record Continues (b : List ℕ) (m : Mode) (w : WordBuilder) : Type 0 where
  pub mode : mode_of w ≡ m
  pub reads : Goes w
  pub inside : position w ≤ length (seen b m)
  pub sound : IsSound (seen b m) w
