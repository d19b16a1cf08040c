use Rattle.sh_facts.proofs.SplitLemmas.{split_cut, two_pieces, one_piece, less}
use Rattle.sh_facts.proofs.splits.cut.Goals as goal

pub returns-clause-at : goal.returns-clause-at
returns-clause-at c = split_cut c.args.byte c.args.text.now c.split_once_str.result c.split_once_str.ensures

pub returns-clause-two : goal.returns-clause-two
returns-clause-two c = two_pieces c.args.byte c.args.text.now c.split_once_str.result (split_cut c.args.byte c.args.text.now c.split_once_str.result c.split_once_str.ensures)

pub returns-clause-one : goal.returns-clause-one
returns-clause-one c = one_piece c.args.byte c.args.text.now c.split_once_str.result (split_cut c.args.byte c.args.text.now c.split_once_str.result c.split_once_str.ensures)

pub returns-clause-less : goal.returns-clause-less
returns-clause-less c = less c.args.byte c.args.text.now c.split_once_str.result c.split_once_str.ensures
