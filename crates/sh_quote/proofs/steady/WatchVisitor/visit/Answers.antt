use Rattle.sh_quote.proofs.WholeLemmas.{watched}
use Rattle.sh_quote.proofs.steady.WatchVisitor.visit.Goals as goal

pub returns : goal.returns
returns c = λ k q.
    watched c.args.script.now c.args.self.now.calls.now c.args.self.now.steady c.command_is_steady-leaves.result c.args.command.now c.args._around c.texts.result.now
    c.texts.ensures c.command_is_steady-leaves.ensures k q
