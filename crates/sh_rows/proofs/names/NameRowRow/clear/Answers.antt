use Rattle.std.proofs.Common.{ℕ, ap, ◌∙◌, not, eqb}
use Rattle.std.proofs.lemmas.List.Kept.{IsStrictlyIncreasing-filter}
use Rattle.sh_rows.specs.Numbers.{has_number}
use Rattle.sh_rows.proofs.NumberLemmas.{has_number-filter, below-filter}
use Rattle.sh_rows.proofs.names.NameRowRow.clear.Goals as goal

pub invariant_of-self : goal.invariant_of-self
invariant_of-self c =
    let kept = λ (x : ℕ). not (eqb x c.args.n) in
    record {
      rising = rw c.keep_others.ensures (IsStrictlyIncreasing-filter kept _ c.args.self.now.rising);
      below = rw c.keep_others.ensures (below-filter c.args.self.now.count kept _ c.args.self.now.below);
    }

pub returns-clause-numbers : goal.returns-clause-numbers
returns-clause-numbers c k = ap (has_number k) c.keep_others.ensures ∙ has_number-filter k (λ (x : ℕ). not (eqb x c.args.n)) _
