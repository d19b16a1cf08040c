use Rattle.sh_domain.proofs.RowReadLemmas.{distinct_keys}
use Rattle.sh_domain.proofs.name_set.NameSet.count.Goals as goal

pub returns-clause-distinct : goal.returns-clause-distinct
returns-clause-distinct c = rw (← c.self.view_is) (distinct_keys c.self.inside.set.keys c.len.ensures.unique)
