-- What is printed of a script that is read.
use Rattle.std.proofs.Common.{◌≡◌, List, ℕ, Ok, Err, sym, subst}
use Rattle.sh_tree.specs.Answers.{Parses}
use Rattle.sh_tree.specs.declared.refusal.Refusal.{Refusal}
use Rattle.sh_tree.specs.declared.refusal.Refusal.TheVariants.{Memory}
use Rattle.sh_tree.specs.declared.tree.Script.{Script}
use Rattle.sh_accept.specs.Answers.{Prints}

-- out of memory
pub exhausted : (b : List ℕ) (t : Script) (e : Refusal) → Parses b (Ok t) → e ≡ Memory → Prints b (Err e)
exhausted b t e p h = subst (λ x. Prints b (Err x)) (sym h) (record { refused = p.0; limit = tt; misplaced = λ _ _ _ _ _ _. tt; pending = λ _ _ _ _ _ _ _. tt })
