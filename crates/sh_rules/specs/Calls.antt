-- What is known round a call of a function.
-- POSIX.1-2024, XCU 2.9.1 (simple commands), 2.9.5 (function definitions).
use Rattle.std.specs.Prelude.{◌≡◌, if◌then◌else◌, Option, Some, None, codes}
use Rattle.std.specs.Str.{bytes_eq}
use Rattle.sh_tree.specs.standard.program.Syntax as p
use Rattle.sh_tree.specs.standard.program.Syntax.{Text}
use Rattle.sh_domain.specs.declared.knowledge.Return.{Return}
use Rattle.sh_domain.specs.Certificates.{claim_of, drops_of, in_byte_order}
use Rattle.sh_domain.specs.Facts.{Facts, Unreached}
use Rattle.sh_domain.specs.Gains.{named}
use Rattle.sh_domain.specs.Operands.{no_names, total}
use Rattle.sh_domain.specs.Table.{prefixes}
use Rattle.sh_domain.specs.Views.{Slot, Count}
use Rattle.sh_rules.specs.Losses.{variable_lost}
use Rattle.sh_rules.specs.Settings.{Setting, certificate, gained}
use Rattle.sh_rules.specs.SimpleBounds.{stepped}
use Rattle.sh_rules.specs.TextBounds.{behind_name}

-- What the certificate says of the return of a function: what a call drops, and what is claimed
-- there; or that it does not have the function.

pub record IsReturn (x : Setting) (function : Text) (slot : Slot) (r : Return) : Type 0 where
  pub drops : (certificate x).drops function ≡ drops_of (in_byte_order x.names) x.kept.rows r.drops
  pub claim : (certificate x).claim slot ≡ claim_of (in_byte_order x.names) x.kept.rows r.facts

pub record IsUnknown (x : Setting) (function : Text) (slot : Slot) : Type 0 where
  pub drops : (certificate x).drops function ≡ no_names
  pub claim : (certificate x).claim slot ≡ Unreached

abbrev pub Returns : Setting → Text → Slot → Option Return → Type 0
Returns x function slot None = IsUnknown x function slot
Returns x function slot (Some r) = IsReturn x function slot r

-- without OPTARG, if a utility may have run that unsets it
unfoldable pub passed : Setting → Text → Facts → Facts
passed x function k = if bytes_eq function (codes "getopts") then variable_lost x k (codes "OPTARG") else k

-- what a function is entered with: the operands are the positional parameters, and the names of the
-- prefix assignments are set
unfoldable pub entered : Setting → p.Elements → Facts → Facts
entered x es k = gained x (named (prefixes es)) (stepped x (Count (total (behind_name es))) k)
