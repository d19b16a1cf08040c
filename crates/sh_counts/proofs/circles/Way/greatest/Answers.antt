use Rattle.std.proofs.Common.{arith}
use Rattle.sh_counts.proofs.WayLemmas.{way_falls}
use Rattle.sh_counts.proofs.circles.Way.greatest.Goals as goal

pub returns-else-most-made : goal.returns-else-most-made
returns-else-most-made c n le own =
    let s = c.args.self in
    way_falls s.times s.plus s.minus s.least s.most c.args.count c.min-most.result n (omega arith) (omega arith) le own
