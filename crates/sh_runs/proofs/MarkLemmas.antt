-- The marks in the work that is left say what is round the command at its front.
use Rattle.std.proofs.Common.{◌≡◌, ℕ, ◌-◌, nat_le, Bool, true, false, if◌then◌else◌, is_some, List, [], ◌∷◌, refl, sym, ◌∙◌, arith}
use Rattle.std.proofs.lemmas.Bool.Decides.{nat_tests}
use Rattle.sh_runs.specs.Surroundings.{Surroundings, has_loop, outside, in_loop, in_function}
use Rattle.sh_runs.specs.standard.runs.Work.{Work, Return, Test, Again, ForFields, Mark, no_loop, marked, or_nearer, nth_mark, loop_mark, return_mark}
use Rattle.sh_runs.specs.standard.runs.Rows.{is_marked}

-- what is round a command with this work after it: a process is begun outside loops and functions
unfoldable pub around : List Work → Surroundings
around [] = outside
around (Return number function saved ∷ ws) = in_function
around (Test number kind condition body last ∷ ws) = in_loop (around ws)
around (Again number kind condition body ∷ ws) = in_loop (around ws)
around (ForFields number name fields body ∷ ws) = in_loop (around ws)
around (w ∷ ws) = around ws

in_loop_has : (x : Surroundings) → has_loop (in_loop x) ≡ true
in_loop_has x = grind (arith, nat_tests)

nth_marked : (n : ℕ) (further : Mark) (turn : Work) (behind : List Work) → is_marked (nth_mark n further turn behind) ≡ true
unfolding nth_mark or_nearer is_marked
nth_marked n further turn behind = go (nat_le n 1) further
  where
    go : (b : Bool) (further : Mark) → is_marked (if b then marked turn behind else or_nearer further turn behind) ≡ true
    go true further = refl
    go false no_loop = refl
    go false (marked t b) = refl

-- a loop is round a place where a jump finds its mark
pub loop_is_marked : (n : ℕ) (ws : List Work) → is_marked (loop_mark n ws) ≡ has_loop (around ws)
unfolding around loop_mark is_marked
loop_is_marked n [] = refl
loop_is_marked n (Return number function saved ∷ ws) = refl
loop_is_marked n (Test number kind condition body last ∷ ws) = nth_marked n (loop_mark (n - 1) ws) (Again number kind condition body) ws ∙ sym (in_loop_has (around ws))
loop_is_marked n (Again number kind condition body ∷ ws) = nth_marked n (loop_mark (n - 1) ws) (Again number kind condition body) ws ∙ sym (in_loop_has (around ws))
loop_is_marked n (ForFields number name fields body ∷ ws) = nth_marked n (loop_mark (n - 1) ws) (ForFields number name fields body) ws ∙ sym (in_loop_has (around ws))
loop_is_marked n (w ∷ ws) = loop_is_marked n ws

-- a function is round a place where `return` finds its mark
pub function_is_marked : (ws : List Work) → is_some (return_mark ws) ≡ (around ws).function
unfolding around return_mark
function_is_marked [] = refl
function_is_marked (Return number function saved ∷ ws) = refl
function_is_marked (w ∷ ws) = function_is_marked ws
