use Rattle.sh_facts.proofs.ReadingLemmas.{row_lasts}
use Rattle.sh_facts.proofs.reading.read_row.Goals as goal

pub returns-clause-ok : goal.returns-clause-ok
returns-clause-ok c =
    let r = c.in_ok-row.ensures.ok in
    record {
      count = c.in_ok-id.ensures.count;
      stay = c.in_ok-id.ensures.kept;
      fit = r.fit;
      lasting = λ later s. row_lasts c.args.names.now c.args.text.now c.args.rows.now c.intern.new.self later c.in_ok-row.row c.in_ok-id.id r c.in_ok-id.ensures.found c.in_ok-id.ensures.known s;
    }
