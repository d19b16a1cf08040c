use Rattle.std.proofs.Common.{◌≡◌, ◌<◌, ℕ, List, ap, ◌∙◌, true, sym, subst}
use Rattle.std.proofs.lemmas.Bool.{both_ways, cond_both}
use Rattle.std.specs.Result.{is_ok}
use Rattle.sh_rows.specs.Numbers.{has_number}
use Rattle.sh_rows.proofs.NumberLemmas.{has_number-insert, has_number-would, below-insert}
use Rattle.sh_rows.proofs.names.NameRowRow.add.Goals as goal

pub returns-in_ok-insert-in-Err-clause-ok : goal.returns-in_ok-insert-in-Err-clause-ok
returns-in_ok-insert-in-Err-clause-ok c k =
    ap (has_number k) c.in_ok-insert-in-Err.ensures.items ∙ has_number-insert k _ _ _

pub returns-in_err-insert-in-Err-clause-there : goal.returns-in_err-insert-in-Err-clause-there
returns-in_err-insert-in-Err-clause-there c there =
    let gone = has_number-would c.args.n c.deref.result.now c.in-Err.at c.in-Err.ensures.1 c.in-Err.ensures.2 in
    absurd (both_ways _ (ap (has_number c.args.n) (sym c.deref.ensures.value) ∙ gone) there)

pub invariant_of-self-clause-below : goal.invariant_of-self-clause-below
invariant_of-self-clause-below c =
    let Below : List ℕ → Type 0 = λ xs. (k : ℕ) → has_number k xs ≡ true → k < c.args.self.now.count in
    let old = c.args.self.now.numbers.items in
    subst Below (sym c.insert.ensures.items)
    (cond_both (is_ok c.insert.result) _ _ Below
    (λ _. below-insert c.args.self.now.count c.args.n c.in-Err.at old c.requires c.args.self.now.below)
    (λ _. c.args.self.now.below))
