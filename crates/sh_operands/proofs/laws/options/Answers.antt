use Rattle.sh_operands.proofs.MeaningLemmas.{unset_reads, unset_keeps, set_reads, set_stays}
use Rattle.sh_operands.proofs.laws.options.Goals as goal

pub returns-clause-unset : goal.returns-clause-unset
returns-clause-unset c = unset_reads

pub returns-clause-kept : goal.returns-clause-kept
returns-clause-kept c = unset_keeps

pub returns-clause-set : goal.returns-clause-set
returns-clause-set c = set_reads

pub returns-clause-behind : goal.returns-clause-behind
returns-clause-behind c = set_stays
