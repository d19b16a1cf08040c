use Rattle.sh_facts.proofs.ReadingLemmas.{command_read}
use Rattle.sh_facts.proofs.reading.read_command.Goals as goal

pub returns-clause-ok : goal.returns-clause-ok
returns-clause-ok c =
    command_read c.args.names.now c.args.texts c.args.is_loop c.args.rows.now c.read_facts.new.rows c.read_facts-2.new.rows c.read_facts-3.new.rows c.read_head.new.rows c.in_ok-read_facts.field-0 c.in_ok-read_facts-2.field-0
    c.in_ok-read_facts-3.field-0 c.in_ok-head.head c.in_ok-read_facts.ensures.ok c.in_ok-read_facts-2.ensures.ok c.in_ok-read_facts-3.ensures.ok c.in_ok-head.ensures.ok
