use Rattle.std.proofs.Common.{refl, sym, ◌∙◌}
use Rattle.sh_drafts.proofs.KeptLemmas.{command_needs, function_needs, put_command, put_function, put_head}
use Rattle.sh_drafts.proofs.kept.put.Goals as goal

pub put_entry-requires : goal.put_entry-requires
put_entry-requires c = command_needs c.args.place c.args.facts c.args.certificate.now (sym c.is_of_command.ensures ∙ c.if-is_of_command.true) c.requires

pub put_function-requires : goal.put_function-requires
put_function-requires c = function_needs c.args.place c.args.facts c.args.certificate.now (sym c.is_of_command.ensures ∙ c.if-is_of_command.false) (sym c.is_of_function.ensures ∙ c.if-is_of_function.true) c.requires

pub returns-then-is_of_command : goal.returns-then-is_of_command
returns-then-is_of_command c = put_command c.args.place c.args.facts c.args.certificate.now _ (sym c.is_of_command.ensures ∙ c.if-is_of_command.true) c.requires c.put_entry.ensures refl refl refl

pub returns-then-is_of_function : goal.returns-then-is_of_function
returns-then-is_of_function c =
    put_function c.args.place c.args.facts c.args.certificate.now _ (sym c.is_of_command.ensures ∙ c.if-is_of_command.false) (sym c.is_of_function.ensures ∙ c.if-is_of_function.true) c.requires c.put_function.ensures refl refl refl

pub returns-in_ok-insert : goal.returns-in_ok-insert
returns-in_ok-insert c =
    put_head c.args.place c.args.facts c.args.certificate.now _ (sym c.is_of_command.ensures ∙ c.if-is_of_command.false) (sym c.is_of_function.ensures ∙ c.if-is_of_function.false) (c.in_ok-insert.ensures.updates.1) (c.in_ok-insert.ensures.updates.2) refl refl refl
