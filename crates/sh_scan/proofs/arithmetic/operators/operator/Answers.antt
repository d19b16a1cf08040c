use Rattle.std.specs.Prelude.{IfSome}
use Rattle.std.proofs.Common.{◌<◌, ◌++◌, ◌∷◌, subst, sym}
use Rattle.sh_scan.proofs.ArithmeticLemmas.{operator_moves}
use Rattle.sh_scan.proofs.arithmetic.operators.operator.Goals as goal

pub returns-clause-moves : goal.returns-clause-moves
returns-clause-moves c = subst (λ v. IfSome v (λ found. 0 < found.1)) (sym c.longest.ensures.value) (operator_moves (c.args.first ∷ (c.args.others.now ++ c.args.rest.now)))
