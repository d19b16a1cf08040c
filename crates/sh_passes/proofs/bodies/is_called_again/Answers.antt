use Rattle.std.proofs.Common.{◌∙◌, sym}
use Rattle.sh_tree.specs.declared.tree.Command.{out-Command}
use Rattle.sh_sweeps.proofs.CalleeLemmas.{callee_some}
use Rattle.sh_passes.proofs.bodies.is_called_again.Goals as goal

pub definitions-requires-clause-some : goal.definitions-requires-clause-some
definitions-requires-clause-some c = (callee_some c.args.subject.now.table.now (out-Command c.args.command.now).number c.in-Some.function (sym c.callee.ensures ∙ c.in-Some.is)).0

pub definitions-requires-clause-within : goal.definitions-requires-clause-within
definitions-requires-clause-within c = (callee_some c.args.subject.now.table.now (out-Command c.args.command.now).number c.in-Some.function (sym c.callee.ensures ∙ c.in-Some.is)).1
