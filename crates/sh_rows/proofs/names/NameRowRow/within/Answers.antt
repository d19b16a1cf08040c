use Rattle.std.proofs.Common.{◌≡◌, sym, ◌∙◌, rules}
use Rattle.std.specs.List.{list_all}
use Rattle.sh_rows.specs.Numbers.{has_number}
use Rattle.sh_rows.proofs.NumberLemmas.{within-from_all, all-from_within}
use Rattle.sh_rows.proofs.names.NameRowRow.within.Goals as goal

pub returns : goal.returns
returns c =
    let xs = c.args.self.now.numbers.items in
    let ys = c.args.other.now.numbers.items in
    let is : c.all_in.result ≡ list_all (λ n. has_number n ys) xs = search rules in
    (λ h. within-from_all xs ys (sym is ∙ h), λ h. is ∙ all-from_within xs ys h)
