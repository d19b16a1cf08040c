-- A builder that has read nothing.
-- POSIX.1-2024, XCU 2.6 (word expansions).
use Rattle.std.specs.Prelude.{◌≡◌, ◌≤◌, ℕ, List, [], None}
use Rattle.sh_words.specs.declared.mode.Mode.{Mode}
use Rattle.sh_words.specs.declared.frames.Focus.TheVariants as focus
use Rattle.sh_words.specs.declared.builder.WordBuilder.{WordBuilder}
use Rattle.sh_words.specs.Rest.{IsParts}
use Rattle.sh_words.specs.Sound.{IsSound}

-- a word of the mode at i, where n levels are open: nothing is read yet
pub record IsStart (w : WordBuilder) (m : Mode) (n i : ℕ) : Type 0 where
  pub mode : w.mode ≡ m
  pub begin : w.begin ≡ i
  pub base : w.base ≡ n
  pub at : w.at ≡ i
  pub depth : w.depth ≡ n
  pub focus : w.focus ≡ focus.Start
  pub frames : w.frames ≡ []
  pub holder : IsParts w.holder
  pub failed : w.failed ≡ None
  pub sound : (b : List ℕ) → n ≤ 64 → IsSound b w
