use Rattle.std.proofs.Common.{rules, ◌≡◌, ap₂, ◌∙◌}
use Rattle.std.proofs.lemmas.Result.{IfOk-weaker}
use Rattle.clap.specs.Words.{app_of, new_app, with_rule}
use Rattle.sh_line.proofs.line.printing_command.Goals as goal

pub returns-clause-app : goal.returns-clause-app
returns-clause-app c =
    let base : app_of c.about.result ≡ new_app c.args.name.now = search rules in
    IfOk-weaker c.arg.result _ _ (λ r h. h.shape c.file_arg.ensures.local ∙ ap₂ with_rule base c.file_arg.ensures.rule) c.arg.ensures
