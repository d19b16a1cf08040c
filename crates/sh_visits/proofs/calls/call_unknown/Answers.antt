use Rattle.sh_rules.proofs.CallLemmas.{unknown_defined, unknown_passed}
use Rattle.sh_visits.proofs.calls.call_unknown.Goals as goal

pub returns-then-has_function : goal.returns-then-has_function
returns-then-has_function c = λ r ps u. unknown_defined c.args.claims.now c.args.function.now r ps c.args.known.now c.if-has_function.ensures u

pub returns-else-has_function : goal.returns-else-has_function
returns-else-has_function c = λ r ps u. unknown_passed c.args.claims.now c.args.function.now r ps c.args.known.now c.pass.new.known c.if-has_function.ensures u c.pass.ensures
