use Rattle.std.proofs.Common.{refl}
use Rattle.sh_quote.proofs.WholeLemmas.{steady_whole}
use Rattle.sh_quote.proofs.steady.steady_ifs.Goals as goal

pub returns : goal.returns
returns c =
    steady_whole c.args.script.now c.args.tree.now c.args.calls.now c.walk.new.visitor.calls.now c.walk.new.visitor.steady c.requires.table c.requires.numbered (c.in-Ok.ensures _ refl)
