use Rattle.std.proofs.Common.{sym, arith}
use Rattle.sh_facts.specs.Fields.{text_left, function_line_of}
use Rattle.sh_domain.specs.Forms.{function_in}
use Rattle.sh_facts.proofs.LineLemmas.{lines_on, lines_stop, lines_end}
use Rattle.sh_facts.proofs.lines.after_functions.Goals as goal

pub returns-in_default : goal.returns-in_default
unfolding text_left
returns-in_default c =
    sym (lines_stop function_in c.args.first c.args.count c.loop-done.done c.args.text.now c.loop-done.left.now c.loop-done.invariant c.loop-done-test.true (sym c.in_default.ensures))

pub loop-done-preserved : goal.loop-done-preserved
loop-done-preserved c =
    lines_on function_in c.args.first c.args.count c.loop-done.done c.args.text.now c.loop-done.left.now c.loop-done.invariant c.loop-done-test.true (function_line_of (c.in-Some.field-0-0, c.in-Some.behind)) (sym c.in-Some.ensures)

pub returns : goal.returns
unfolding text_left
returns c =
    sym (lines_end function_in c.args.first c.args.count c.loop-done.done c.args.text.now c.loop-done.left.now c.loop-done.invariant (omega (arith, c.loop-done-test.false)))
