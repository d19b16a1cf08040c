use Rattle.std.proofs.Common.{arith}
use Rattle.sh_drafts.specs.Used.{HeadMoved}
use Rattle.sh_drafts.proofs.UsedLemmas.{all_done, none_done, head_done, used_more, used_none}
use Rattle.sh_drafts.proofs.used.use_heads.Goals as goal

pub loop-index-init : goal.loop-index-init
loop-index-init c = record { used = used_none c.args.rows.now c.args.used.now c.requires; done = none_done (HeadMoved c.args.rows.now.rows c.args.used.now.rows.rows) c.args.heads.now.entries }

pub loop-index-preserved : goal.loop-index-preserved
loop-index-preserved c =
    let rows = c.args.rows.now.rows in
    let before = c.loop-index.used in
    let after = c.use_facts.new.used in
    let grown = c.in_ok-facts.ensures.used in
    record {
      used = used_more c.args.rows.now _ before after c.loop-index.invariant.used grown;
      done = head_done rows before.rows.rows after.rows.rows grown.stay c.loop-index.index c.args.heads.now.entries c.loop-index.heads _ c.in_ok-facts.facts c.index.ensures c.loop-index.invariant.done c.in_ok-facts.ensures.moved;
    }

pub returns-clause-moved : goal.returns-clause-moved
returns-clause-moved c =
    let length = c.len-index-end.ensures in
    all_done (HeadMoved c.args.rows.now.rows c.loop-index.used.rows.rows) c.loop-index.index c.args.heads.now.entries c.loop-index.heads.entries (omega (arith, c.loop-index.auto.index-end, c.loop-index-test.false, length)) c.loop-index.invariant.done
