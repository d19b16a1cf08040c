use Rattle.sh_table.proofs.FunctionLemmas.{put_first}
use Rattle.sh_table.proofs.functions.Functions.add_first.Goals as goal

pub returns : goal.returns
returns c =
    rw (← c.self.view_is)
    (put_first c.args.name.now c.args.number c.self.inside.names.keys c.insert.new.self.keys c.self.inside.definitions.items c.push-2.new.self.items c.in_ok-own.own c.push.new.self
    c.in_ok-own.ensures.items (rw c.new-numbers.ensures.items at c.in_ok-push.ensures.items) c.in_ok-insert.ensures.keys c.in_ok-push-2.ensures.items (rw (← c.self.view_is) at c.requires) c.self.invariant)
