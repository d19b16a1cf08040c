use Rattle.std.proofs.Common.{sym, arith}
use Rattle.sh_facts.specs.CompactFields.{turn_line_of}
use Rattle.sh_facts.specs.Fields.{text_left}
use Rattle.sh_facts.proofs.CompactLineLemmas.{turns_on, turns_stop, turns_end}
use Rattle.sh_facts.proofs.compact_lines.after_turns.Goals as goal

pub returns-in_default : goal.returns-in_default
unfolding text_left
returns-in_default c =
    sym (turns_stop c.args.count c.loop-done.done c.loop-done.least c.args.text.now c.loop-done.left.now c.loop-done.invariant c.loop-done-test.true (sym c.in_default.ensures))

pub loop-done-preserved : goal.loop-done-preserved
loop-done-preserved c =
    turns_on c.args.count c.loop-done.done c.loop-done.least c.args.text.now c.loop-done.left.now c.loop-done.invariant c.loop-done-test.true (turn_line_of (c.in-Some.turn, c.in-Some.behind)) (sym c.in-Some.ensures)

pub returns : goal.returns
unfolding text_left
returns c =
    sym (turns_end c.args.count c.loop-done.done c.loop-done.least c.args.text.now c.loop-done.left.now c.loop-done.invariant (omega (arith, c.loop-done-test.false)))
