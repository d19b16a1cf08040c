use Rattle.std.proofs.Common.{rules, sym, ◌∙◌}
use Rattle.sh_runs.proofs.PositionLemmas.{place_of_key}
use Rattle.sh_table.proofs.FunctionLemmas.{put_more}
use Rattle.sh_table.proofs.functions.Functions.add.Goals as goal

pub add_first-requires : goal.add_first-requires
add_first-requires c = rw (← c.self.view_is) (sym (c.in-None.ensures.index ∙ place_of_key c.args.name.now c.self.inside.names.keys))

pub returns-in_ok-push-in-Some : goal.returns-in_ok-push-in-Some
returns-in_ok-push-in-Some c =
    rw (← c.self.view_is)
    (put_more c.args.name.now c.args.number c.in-Some.index c.self.inside.names.keys c.self.inside.definitions.items c.index_mut.result.now c.push.new.self _
    (sym (c.in-Some.ensures.index ∙ place_of_key c.args.name.now c.self.inside.names.keys)) c.self.invariant (search rules) c.index_mut.ensures.value c.in_ok-push-in-Some.ensures.items)
