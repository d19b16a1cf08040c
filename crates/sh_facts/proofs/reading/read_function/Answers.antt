use Rattle.sh_facts.proofs.ReadingLemmas.{function_read}
use Rattle.sh_facts.proofs.reading.read_function.Goals as goal

pub returns-clause-ok : goal.returns-clause-ok
returns-clause-ok c =
    function_read c.args.names.now c.args.texts c.args.rows.now c.read_facts.new.rows c.read_sets.new.rows c.read_facts-2.new.rows c.read_facts-3.new.rows c.in_ok-read_facts.field-0 c.in_ok-read_facts-2.field-0
    c.in_ok-read_facts-3.field-0 c.in_ok-read_sets.field-0 c.in_ok-read_facts.ensures.ok c.in_ok-read_sets.ensures.ok c.in_ok-read_facts-2.ensures.ok c.in_ok-read_facts-3.ensures.ok
