use Rattle.std.proofs.Common.{refl}
use Rattle.sh_table.proofs.FoundLemmas.{definition_pushed, none_pushed}
use Rattle.sh_table.proofs.found.add_definition.Goals as goal

pub returns-in_ok-push-in-Some : goal.returns-in_ok-push-in-Some
returns-in_ok-push-in-Some c = λ b. definition_pushed b _ _ _ c.args.command.now c.in_ok-push-in-Some.ensures.items refl (c.in-Some.ensures b)

pub returns-in-None : goal.returns-in-None
returns-in-None c = λ b. none_pushed b _ c.args.command.now (c.in-None.ensures b)
