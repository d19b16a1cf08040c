use Rattle.std.proofs.Common.{arith}
use Rattle.sh_domain.proofs.NumberSetLemmas.{below_joined, joined_row, none_joined}
use Rattle.sh_domain.proofs.number_set.NumberSet.join_row.Goals as goal

pub returns-in-Some-clause-below : goal.returns-in-Some-clause-below
returns-in-Some-clause-below c k lt =
    below_joined c.args.rows.now.rows c.args.id.index c.in-Some.row.now c.in-Some.ensures.row c.args.self.now.words c.join_words.new.words _ c.words.ensures c.join_words.ensures.bits k (omega arith)

pub returns-in-Some-clause-all : goal.returns-in-Some-clause-all
returns-in-Some-clause-all c few =
    joined_row c.args.rows.now.rows c.args.id.index c.in-Some.row.now c.in-Some.ensures.row 64 c.args.self.now.words c.join_words.new.words _ c.words.ensures
    (omega (arith, c.in-Some.ensures.sized, few)) (omega arith) (omega arith) c.join_words.ensures.bits

pub returns-in_default-clause-below : goal.returns-in_default-clause-below
returns-in_default-clause-below c k lt = none_joined c.args.rows.now.rows c.args.id.index c.in_default.ensures.row _ k

pub returns-in_default-clause-all : goal.returns-in_default-clause-all
returns-in_default-clause-all c few k = none_joined c.args.rows.now.rows c.args.id.index c.in_default.ensures.row _ k
