-- What is printed of a script is read again, and printed as the same text.
-- shset's own; the standard has no layout of scripts.
use Rattle.std.specs.Prelude.{◌≡◌, ◌≤◌, ℕ, List, length, Result, Ok, Err, Vec}
use Rattle.std.specs.declared.alloc.Global.{Global}
use Rattle.sh_tree.specs.Answers.{Parses}
use Rattle.sh_tree.specs.declared.limits.TheConstants.{MAX_SCRIPT}
use Rattle.sh_tree.specs.declared.refusal.Refusal.{Refusal}
use Rattle.sh_tree.specs.declared.refusal.Refusal.TheVariants.{Memory}
use Rattle.sh_tree.specs.declared.tree.Script.{Script}
use Rattle.sh_print.specs.Layout.{canon}
use Rattle.sh_print.specs.Same.{IsSame}
use Rattle.sh_accept.specs.Answers.{Prints}

-- the answer is a tree of c that is the same as the tree t of b, unless memory ran out
abbrev pub ReadsSame : (b : List ℕ) → Script → (c : List ℕ) → Result Script Refusal → Type 0
ReadsSame b t c (Ok u) = IsSame b t c u
ReadsSame b t c (Err r) = r ≡ Memory

-- the answer is this text, unless memory ran out
abbrev pub PrintsSame : List ℕ → Result (Vec ℕ Global) Refusal → Type 0
PrintsSame c (Ok v) = v.items ≡ c
PrintsSame c (Err r) = r ≡ Memory

-- If what is printed of a script is no longer than a script may be, a reader of scripts takes it,
-- and it is printed as itself.
pub record PrintedIsRead : Type 0 where
  pub parses : (b : List ℕ) (t : Script) (r : Result Script Refusal) → Parses b (Ok t) → length (canon b t) ≤ MAX_SCRIPT
      → Parses (canon b t) r → ReadsSame b t (canon b t) r
  pub prints : (b : List ℕ) (v : Vec ℕ Global) (r : Result (Vec ℕ Global) Refusal) → Prints b (Ok v) → length v.items ≤ MAX_SCRIPT
      → Prints v.items r → PrintsSame v.items r
