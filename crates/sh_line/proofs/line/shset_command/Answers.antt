use Rattle.std.proofs.Common.{rules, ◌≡◌, ap, ap₂, ◌∙◌, codes, true}
use Rattle.std.proofs.lemmas.Result.{IfOk-weaker}
use Rattle.clap.specs.Words.{App, app_of, new_app, with_subcommand}
use Rattle.clap.specs.Simple.{on_top}
use Rattle.sh_line.proofs.line.shset_command.Goals as goal

abbrev top : App
top = on_top (λ s. record s { subcommand_required = true; disable_help_subcommand = true; has_version = true }) (new_app (codes "shset"))

pub returns : goal.returns
returns c =
    let base : app_of c.after_help.result ≡ top = search rules in
    let lint = c.in_ok-command.ensures.shape c.in_ok-lint.ensures.local ∙ ap₂ with_subcommand base (ap (λ (a : App). a.top) c.in_ok-lint.ensures.app) in
    let cert = c.in_ok-command-2.ensures.shape c.in_ok-cert.ensures.local ∙ ap₂ with_subcommand lint (ap (λ (a : App). a.top) c.in_ok-cert.ensures.app) in
    let check = c.in_ok-command-3.ensures.shape c.in_ok-check.ensures.local ∙ ap₂ with_subcommand cert (ap (λ (a : App). a.top) c.in_ok-check.ensures.app) in
    IfOk-weaker c.subcommand-4.result _ _
    (λ r h. h.shape c.in_ok-print.ensures.local ∙ ap₂ with_subcommand check (ap (λ (a : App). a.top) c.in_ok-print.ensures.app))
    c.subcommand-4.ensures
