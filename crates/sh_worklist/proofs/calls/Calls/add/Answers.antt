use Rattle.std.proofs.Common.{sym, ◌∙◌}
use Rattle.sh_worklist.specs.Calls.{callers_in, lists_in}
use Rattle.sh_worklist.proofs.CallLemmas.{callee_some, call_added, none_called}
use Rattle.sh_worklist.proofs.calls.Calls.add.Goals as goal

pub overflow_sub-function : goal.overflow_sub-function
overflow_sub-function c = callee_some c.args.table.now c.args.command c.in-Some.function (sym c.callee.ensures ∙ c.in-Some.is)

pub returns-in_ok-add_call-clause-called : goal.returns-in_ok-add_call-clause-called
returns-in_ok-add_call-clause-called c f lt =
    call_added c.args.table.now (lists_in c.args.self.now) (lists_in c.add_call.new.self) f c.in-Some.function c.args.command c.in-Some.ensures
    (callee_some c.args.table.now c.args.command c.in-Some.function (sym c.callee.ensures ∙ c.in-Some.is))
    c.in_ok-add_call.ensures lt

pub returns-in_default-clause-called : goal.returns-in_default-clause-called
returns-in_default-clause-called c f lt = none_called c.args.table.now (callers_in c.args.self.now f) f c.args.command c.in_default.ensures
