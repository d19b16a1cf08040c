use Rattle.std.proofs.Common.{map, sym, ◌∙◌}
use Rattle.sh_table.specs.WordTexts.{text_in}
use Rattle.sh_rules.specs.Walks.{loops_of}
use Rattle.sh_tally.proofs.JumpLemmas.{loop_read, outer_read}
use Rattle.sh_tally.proofs.jumps.loop_of.Goals as goal

pub returns-then-count-lt4294967295 : goal.returns-then-count-lt4294967295
returns-then-count-lt4294967295 c =
    loop_read c.in-Some.count c.jump_loop.result (loops_of c.args.around.now.loops) (map (text_in c.args.script.now) c.args.texts.now) (sym c.in-Some.is ∙ c.first_number.ensures) c.if-count-lt4294967295.true c.jump_loop.ensures

pub returns-else-count-lt4294967295 : goal.returns-else-count-lt4294967295
returns-else-count-lt4294967295 c =
    outer_read c.in-Some.count c.outermost.result (loops_of c.args.around.now.loops) (map (text_in c.args.script.now) c.args.texts.now) (sym c.in-Some.is ∙ c.first_number.ensures) c.outermost.ensures
