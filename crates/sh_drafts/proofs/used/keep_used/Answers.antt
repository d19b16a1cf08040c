use Rattle.sh_drafts.specs.Used.{EntryMoved, HeadMoved}
use Rattle.sh_drafts.proofs.FactLemmas.{stay_through}
use Rattle.sh_drafts.proofs.UsedLemmas.{done_up, entry_grows, head_grows, moved_same}
use Rattle.sh_drafts.proofs.used.keep_used.Goals as goal

pub returns : goal.returns
returns c =
    let rows = c.args.certificate.now.rows.rows in
    let first = c.use_entries.new.used.rows.rows in
    let second = c.use_heads.new.used.rows.rows in
    let third = c.use_functions.new.used.rows.rows in
    let later = c.in_ok-use_functions.ensures.used in
    let both = stay_through first second third c.in_ok-use_heads.ensures.used.stay later.stay in
    moved_same c.args.certificate.now _ later.noted.count
    (done_up (EntryMoved rows first) (EntryMoved rows third) (entry_grows rows first third both) _ _ _ c.in_ok-use_entries.ensures.moved)
    (done_up (HeadMoved rows second) (HeadMoved rows third) (head_grows rows second third later.stay) _ _ _ c.in_ok-use_heads.ensures.moved) c.in_ok-use_functions.ensures.moved
