-- The command line that the program has, as clap reads it: `lint [--args N] FILE [NAME..]`,
-- `cert [--args N] [--full] FILE [NAME..]`, `check [--args N] FILE CERT [NAME..]`, `print FILE`,
-- and `--version`.
-- POSIX.1-2024, XBD 12.2 (utility syntax guidelines).
use Rattle.std.specs.Prelude.{[], ◌∷◌, Some, codes, true, pos}
use Rattle.clap.specs.Words.{App, Rule, Text, new_app, new_rule, with_rule, with_subcommand}
use Rattle.clap.specs.Simple.{on_top}
use Rattle.clap.specs.declared.builder.action.ArgAction.TheVariants.{Append, SetTrue}
use Rattle.clap.specs.declared.builder.value_parser.ValueParser.TheVariants.{Signed}

abbrev pub args_rule : Rule
args_rule = record (new_rule (codes "args")) {
  long = Some (codes "args");
  value_names = 1;
  parser = Some (Signed (pos 0) (pos 65535));
  defaults = codes "0" ∷ [];
}

abbrev pub file_rule : Text → Rule
file_rule id = record (new_rule id) { required = true }

abbrev pub name_rule : Rule
name_rule = record (new_rule (codes "NAME")) { action = Some Append }

-- a command that reads a script: [--args N] FILE [NAME..]
abbrev pub reading_app : Text → App
reading_app name =
    with_rule (with_rule (with_rule (new_app name) args_rule) (file_rule (codes "FILE"))) name_rule

abbrev pub full_rule : Rule
full_rule = record (new_rule (codes "full")) { long = Some (codes "full"); action = Some SetTrue }

-- a command that shows a certificate: [--args N] [--full] FILE [NAME..]
abbrev pub certifying_app : Text → App
certifying_app name =
    with_rule (with_rule (with_rule (with_rule (new_app name) args_rule) full_rule) (file_rule (codes "FILE"))) name_rule

-- a command that reads a certificate too: [--args N] FILE CERT [NAME..]
abbrev pub checking_app : Text → App
checking_app name =
    with_rule (with_rule (with_rule (with_rule (new_app name) args_rule) (file_rule (codes "FILE"))) (file_rule (codes "CERT"))) name_rule

-- a command that reads the text of a script alone: FILE
abbrev pub printing_app : Text → App
printing_app name = with_rule (new_app name) (file_rule (codes "FILE"))

abbrev pub shset_app : App
shset_app =
    with_subcommand
    (with_subcommand
    (with_subcommand
    (with_subcommand
    (on_top (λ s. record s { subcommand_required = true; disable_help_subcommand = true; has_version = true }) (new_app (codes "shset")))
    (reading_app (codes "lint")).top)
    (certifying_app (codes "cert")).top)
    (checking_app (codes "check")).top)
    (printing_app (codes "print")).top
