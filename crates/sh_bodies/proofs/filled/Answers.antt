use Rattle.std.proofs.Common.{rules}
use Rattle.sh_bodies.proofs.FillLemmas.{none_filled, all_filled}
use Rattle.sh_bodies.proofs.filled.Goals as goal

pub returns-then-is_empty : goal.returns-then-is_empty
returns-then-is_empty c = none_filled c.args.bodies c.args.script (search rules)

pub returns : goal.returns
returns c = all_filled c.fill_script.result c.args.bodies c.from-queue.result.items c.fill_script.new.bodies.items c.args.script (search rules) (search rules) c.fill_script.ensures
