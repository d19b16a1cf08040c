use Rattle.std.proofs.Common.{◌≡◌, sym, arith}
use Rattle.sh_table.proofs.NumeralLemmas.{enough_none, enough_some}
use Rattle.sh_table.proofs.rules.is_at_most.Goals as goal

pub returns-in-None : goal.returns-in-None
returns-in-None c = enough_none c.args.most _ (sym c.in-None.ensures)

pub returns-in-Some : goal.returns-in-Some
returns-in-Some c =
    let same : c.from.result ≡ c.args.most = c.from.ensures in
    rw same (enough_some c.args.most c.in-Some.number _ (omega (arith, c.ranges.most.fits)) (sym c.in-Some.ensures))
