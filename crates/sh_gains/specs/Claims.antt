-- What the certificate of a script claims: shset's own; the standard has none.
use Rattle.std.specs.Prelude.{ℕ, List}
use Rattle.sh_tree.specs.declared.tree.Script.{Script}
use Rattle.sh_tree.specs.standard.program.Syntax.{Text}
use Rattle.sh_runs.specs.Calls.{table_of}
use Rattle.sh_domain.specs.declared.certificate.Certificate as kept
use Rattle.sh_domain.specs.Certificates.{in_byte_order, sheet_of}
use Rattle.sh_domain.specs.Sheets.{certificate_of}
use Rattle.sh_domain.specs.Views.{Certificate}

-- what a kept certificate of a script claims, for these numbered names
abbrev pub kept_claims : List ℕ → Script → List Text → kept.Certificate → Certificate
kept_claims b t names c = certificate_of (table_of b t).functions.names (sheet_of (in_byte_order names) c)
