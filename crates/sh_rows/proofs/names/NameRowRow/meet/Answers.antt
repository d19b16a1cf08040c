use Rattle.std.proofs.Common.{◌≡◌, ℕ, ap, ◌∙◌, rules}
use Rattle.std.specs.List.{filter}
use Rattle.std.proofs.lemmas.List.Kept.{IsStrictlyIncreasing-filter}
use Rattle.sh_rows.specs.Numbers.{has_number}
use Rattle.sh_rows.proofs.NumberLemmas.{has_number-filter, below-filter}
use Rattle.sh_rows.proofs.names.NameRowRow.meet.Goals as goal

pub invariant_of-self : goal.invariant_of-self
invariant_of-self c =
    let kept = λ (x : ℕ). has_number x c.args.other.now.numbers.items in
    let is : c.keep_common.new.numbers.items ≡ filter kept c.args.self.now.numbers.items = search rules in
    record {
      rising = rw is (IsStrictlyIncreasing-filter kept _ c.args.self.now.rising);
      below = rw is (below-filter c.args.self.now.count kept _ c.args.self.now.below);
    }

pub returns-clause-numbers : goal.returns-clause-numbers
returns-clause-numbers c k =
    let kept = λ (x : ℕ). has_number x c.args.other.now.numbers.items in
    let is : c.keep_common.new.numbers.items ≡ filter kept c.args.self.now.numbers.items = search rules in
    ap (has_number k) is ∙ has_number-filter k kept _
