use Rattle.sh_domain.specs.NumberSets.{numbers_of}
use Rattle.sh_domain.proofs.NumberSetLemmas.{left_row, none_left}
use Rattle.sh_domain.proofs.number_set.NumberSet.remove_row.Goals as goal

pub returns-in-Some : goal.returns-in-Some
returns-in-Some c = left_row c.args.rows.now.rows c.args.id.index c.in-Some.row.now c.in-Some.ensures.row (numbers_of c.args.self.now) c.remove_words.new.words _ c.words.ensures c.remove_words.ensures.bits

pub returns-in_default : goal.returns-in_default
returns-in_default c = λ k. none_left c.args.rows.now.rows c.args.id.index c.in_default.ensures.row _ k
