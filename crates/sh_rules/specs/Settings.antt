-- What a check of a certificate uses: the script, its names, its call table, and the certificate
-- that is kept.
-- The standard has no such thing: what is known at a place (XCU 2.5), of the names that are
-- numbered.
use Rattle.std.specs.Prelude.{List, [], ◌∷◌}
use Rattle.sh_tree.specs.standard.program.Syntax.{Text}
use Rattle.sh_runs.specs.Calls.{Row}
use Rattle.sh_domain.specs.declared.certificate.Certificate as kept
use Rattle.sh_domain.specs.Certificates.{in_byte_order, sheet_of}
use Rattle.sh_domain.specs.Facts.{Facts, Claim, facts}
use Rattle.sh_domain.specs.Gains.{Gains, job, with_gains}
use Rattle.sh_domain.specs.Sheets.{certificate_of}
use Rattle.sh_domain.specs.Views.{Certificate, Slot, Lose, step}
use Rattle.sh_gains.specs.Knowing.{among}

pub record Setting : Type 0 where
  pub script : Text
  pub names : List Text
  pub functions : List Text
  pub rows : List Row
  pub kept : kept.Certificate

-- the certificate on which the rules are tested
abbrev pub certificate : Setting → Certificate
certificate x = certificate_of x.functions (sheet_of (in_byte_order x.names) x.kept)

-- what the certificate claims at a place, as a claim and as facts
unfoldable pub claimed_at : Setting → Slot → Claim
claimed_at x s = (certificate x).claim s

unfoldable pub known_at : Setting → Slot → Facts
known_at x s = facts ((certificate x).claim s)

-- with what is gained, of the names that are numbered
unfoldable pub gained : Setting → Gains → Facts → Facts
gained x g f = with_gains (among x.names g) f

-- a process that is started may have no `!`
unfoldable pub without_job : Setting → Facts → Facts
without_job x f = step (certificate x) (Lose (record { vars = job ∷ []; functions = [] })) f
