use Rattle.std.proofs.Common.{refl, sym, ◌∙◌}
use Rattle.sh_sweeps.proofs.KnownLemmas.{left_out, none_passed}
use Rattle.sh_sweeps.proofs.nowhere.leave_all.Goals as goal

pub returns-then-is_empty : goal.returns-then-is_empty
returns-then-is_empty c s = none_passed s c.args.course.now c.args.items.now (sym c.is_empty.ensures ∙ c.if-is_empty.true)

pub returns : goal.returns
returns c s = left_out s c.args.course.now _ c.args.items.now refl (c.nothing_behind-course.ensures s) (sym c.is_empty.ensures ∙ c.if-is_empty.false)
