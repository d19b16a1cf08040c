use Rattle.std.proofs.Common.{nat_eq, ◌∙◌}
use Rattle.indexmap.proofs.CallerLemmas.{insert_entry-new}
use Rattle.sh_facts.proofs.compact_reading.put_last.Goals as goal

pub returns-clause-put : goal.returns-clause-put
returns-clause-put c = λ none. c.in_ok-insert.ensures.entries ∙ insert_entry-new nat_eq c.args.heads.now c.args.number c.args.facts none
