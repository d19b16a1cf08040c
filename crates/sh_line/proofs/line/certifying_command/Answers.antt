use Rattle.std.proofs.Common.{rules, ◌≡◌, ap₂, ◌∙◌}
use Rattle.std.proofs.lemmas.Result.{IfOk-weaker}
use Rattle.clap.specs.Words.{app_of, new_app, with_rule}
use Rattle.sh_line.proofs.line.certifying_command.Goals as goal

pub returns-clause-app : goal.returns-clause-app
returns-clause-app c =
    let base : app_of c.after_help.result ≡ new_app c.args.name.now = search rules in
    let one = c.in_ok-arg.ensures.shape c.args_arg.ensures.local ∙ ap₂ with_rule base c.args_arg.ensures.rule in
    let two = c.in_ok-arg-2.ensures.shape c.full_arg.ensures.local ∙ ap₂ with_rule one c.full_arg.ensures.rule in
    let three = c.in_ok-arg-3.ensures.shape c.file_arg.ensures.local ∙ ap₂ with_rule two c.file_arg.ensures.rule in
    IfOk-weaker c.arg-4.result _ _ (λ r h. h.shape c.name_arg.ensures.local ∙ ap₂ with_rule three c.name_arg.ensures.rule) c.arg-4.ensures
