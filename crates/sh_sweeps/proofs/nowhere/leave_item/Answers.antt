use Rattle.std.proofs.Common.{refl}
use Rattle.sh_sweeps.proofs.nowhere.leave_item.Goals as goal

pub returns : goal.returns
returns c s i = record { by = refl; behind = λ o k. c.nothing_behind-course.ensures s _ }
