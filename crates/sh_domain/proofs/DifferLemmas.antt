-- If each number occurs once, the test that numbers differ holds.
use Rattle.std.proofs.Common.{◌≡◌, ℕ, suc, ◌==◌, Bool, true, false, not, List, [], ◌∷◌, map, refl, arith}
use Rattle.std.specs.List.{Contains, list_all}
use Rattle.std.proofs.lemmas.Bool.{and_from, eqb-true}
use Rattle.sh_tree.specs.declared.tree.Script.{Script}
use Rattle.sh_tree.specs.standard.language.Reading.{Reads}
use Rattle.sh_tree.specs.standard.program.Trees.{script_of}
use Rattle.sh_runs.specs.Numbering.{numbers_differ, is_numbered}
use Rattle.sh_runs.specs.Sites.{site_of}
use Rattle.sh_runs.specs.Surroundings.{Located, outside, items_located}
use Rattle.sh_domain.specs.Readings.{command_number}
use Rattle.sh_reads.specs.Spots.{EachOnce}
use Rattle.sh_domain.proofs.NumberLemmas.{read_numbers_differ}

other : (t : Bool) → (t ≡ true → ⊥) → not t ≡ true
other true h = absurd (h refl)
other false h = refl

all_other : (n : ℕ) (ls : List Located) → (Contains (map command_number ls) n → ⊥) → list_all (λ x. not (x.number == n)) (map site_of ls) ≡ true
all_other n [] h = refl
all_other n (z ∷ zs) h = and_from _ _ (other (command_number z == n) (λ e. h (0, omega arith, eqb-true (command_number z) n e))) (all_other n zs (λ c. h (suc c.0, (let less = c.1 in omega arith), c.2)))

once_differ : (ls : List Located) → EachOnce (map command_number ls) → numbers_differ (map site_of ls) ≡ true
unfolding EachOnce numbers_differ
once_differ [] h = refl
once_differ (l ∷ ls) h = and_from _ _ (all_other (command_number l) ls h.0) (once_differ ls h.1)

pub read_is_numbered : (b : List ℕ) (t : Script) → Reads b t → is_numbered (script_of b t) ≡ true
unfolding is_numbered
read_is_numbered b t reads = once_differ (items_located outside (script_of b t)) (read_numbers_differ b t reads)
