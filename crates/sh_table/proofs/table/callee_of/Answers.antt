use Rattle.std.proofs.Common.{length, ap, arith}
use Rattle.std.proofs.lemmas.List.{length-map}
use Rattle.sh_table.proofs.TableLemmas.{none_named, none_among}
use Rattle.sh_table.proofs.table.callee_of.Goals as goal

pub returns-in-empty : goal.returns-in-empty
returns-in-empty c =
    let same = ap length c.names.ensures in
    let count = length-map c.names.result.now (λ v. v.items) in
    let few = c.in-empty.len_below in
    none_among c.args.functions.now.names _ (omega (arith, same, count, few))

pub returns-in_err-name-in-len1-up : goal.returns-in_err-name-in-len1-up
returns-in_err-name-in-len1-up c = rw c.from_residual.ensures (none_named c.args.functions.now.names _ c.in_err-name-in-len1-up.ensures)
