use Rattle.std.proofs.Common.{arith}
use Rattle.sh_worklist.proofs.CallLemmas.{pushed}
use Rattle.sh_worklist.proofs.calls.Calls.add_call.Goals as goal

pub returns-in_ok-push : goal.returns-in_ok-push
returns-in_ok-push c =
    pushed c.args.self.now.callers.items c.args.function c.args.command c.index_mut.result.now c.push.new.self (omega arith) c.index_mut.ensures.value c.in_ok-push.ensures.items
