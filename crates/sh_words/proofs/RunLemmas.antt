-- A builder that waits for commands.
use Rattle.std.proofs.Common.{◌≡◌, ℕ, ◌<◌, ◌≤◌, ◌⊎◌, List, length, subst}
use Rattle.sh_tree.specs.declared.tree.CommandStyle.{CommandStyle}
use Rattle.sh_words.specs.declared.frames.Focus.TheVariants as focus
use Rattle.sh_words.specs.declared.builder.WordBuilder.{WordBuilder}
use Rattle.sh_words.specs.Rest.{Rest, Left, here}
use Rattle.sh_words.specs.Clauses.{Never, Waits}
use Rattle.sh_words.specs.Sound.{Fits, IsSound}
use Rattle.sh_words.specs.States.{started}

-- it reads nothing before they are handed back
pub waiting_ends : (b : List ℕ) (w : WordBuilder) (start : ℕ) (style : CommandStyle) → Waits w start style → IsSound b w → (start ≤ length b) × Never (Left b w)
unfolding Left
waiting_ends b w start style e s = (subst (λ x. Fits b x w.frames) e s.2, λ limit g u ps l. subst (λ x. Rest b limit g w.mode x w.holder w.frames (here g w) u ps) e l)

-- how far a word is that began with `first`
abbrev pub Progress : List ℕ → WordBuilder → WordBuilder → Type 0
Progress b first w = first.focus ≡ focus.Start → (first.at < w.at) ⊎ (w ≡ first) ⊎ (w ≡ started b first)
