use Rattle.std.proofs.Common.{arith, ◌∙◌}
use Rattle.sh_drafts.specs.Used.{EntryMoved}
use Rattle.sh_drafts.proofs.UsedLemmas.{all_done, none_done, set_done, used_more, used_none, entry_grows}
use Rattle.sh_drafts.proofs.used.use_entries.Goals as goal

pub loop-index-init : goal.loop-index-init
loop-index-init c = record { used = used_none c.args.rows.now c.args.used.now c.requires; done = none_done (EntryMoved c.args.rows.now.rows c.args.used.now.rows.rows) c.args.entries.now.items }

pub loop-index-preserved : goal.loop-index-preserved
loop-index-preserved c =
    let rows = c.args.rows.now.rows in
    let before = c.loop-index.used in
    let after = c.use_entry.new.used in
    let grown = c.in_ok-entry.ensures.used in
    let count = c.loop-index.invariant.done.count in
    let length = c.len-index-end.ensures ∙ c.args.entries.now.ok.0 in
    record {
      used = used_more c.args.rows.now _ before after c.loop-index.invariant.used grown;
      done = set_done (EntryMoved rows before.rows.rows) (EntryMoved rows after.rows.rows) (entry_grows rows before.rows.rows after.rows.rows grown.stay) c.loop-index.index c.args.entries.now.items c.loop-index.entries.items _ c.in_ok-entry.entry
          (omega (arith, c.loop-index-test.true, count, length)) c.index.ensures c.loop-index.invariant.done c.in_ok-entry.ensures.moved;
    }

pub returns-clause-moved : goal.returns-clause-moved
returns-clause-moved c =
    let length = c.len-index-end.ensures ∙ c.args.entries.now.ok.0 in
    all_done (EntryMoved c.args.rows.now.rows c.loop-index.used.rows.rows) c.loop-index.index c.args.entries.now.items c.loop-index.entries.items (omega (arith, c.loop-index.auto.index-end, c.loop-index-test.false, length)) c.loop-index.invariant.done
