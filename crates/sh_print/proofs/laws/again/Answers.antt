use Rattle.std.proofs.Common.{ap, sym}
use Rattle.sh_print.specs.Layout.{items_text}
use Rattle.sh_print.proofs.laws.again.Goals as goal

pub returns : goal.returns
returns c = λ b t u same. sym (ap (items_text 0) same)
