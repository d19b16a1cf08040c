use Rattle.std.proofs.Common.{ap}
use Rattle.sh_print.specs.Layout.{items_text}
use Rattle.sh_print.proofs.laws.alike.Goals as goal

pub returns : goal.returns
returns c = λ b d t u same. ap (items_text 0) same
