-- Commands differ in their numbers.
-- The standard has no such thing: a command's number is its place among the commands of a script.
use Rattle.std.specs.Prelude.{ℕ, nat_lt, ◌==◌, Bool, true, not, ◌&&◌, List, [], ◌∷◌, map}
use Rattle.std.specs.List.{list_all}
use Rattle.sh_tree.specs.standard.program.Syntax as p
use Rattle.sh_runs.specs.Sites.{Site, site_of}
use Rattle.sh_runs.specs.Surroundings.{outside, items_located}

unfoldable pub numbers_differ : List Site → Bool
numbers_differ [] = true
numbers_differ (s ∷ ss) = list_all (λ x. not (x.number == s.number)) ss && numbers_differ ss

-- no two commands of the program have one number
unfoldable pub is_numbered : p.Items → Bool
is_numbered t = numbers_differ (map site_of (items_located outside t))

-- the first of the numbers, if there is one, is greater
unfoldable pub precedes : ℕ → List ℕ → Bool
precedes m [] = true
precedes m (n ∷ ns) = nat_lt m n

unfoldable pub numbers_rise : List ℕ → Bool
numbers_rise [] = true
numbers_rise (n ∷ ns) = precedes n ns && numbers_rise ns
